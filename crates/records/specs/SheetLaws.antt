-- Laws of `Sheet`: how long rows are, and what one more record writes.
use Rattle.std.specs.Prelude.{ℕ, suc, ◌+◌, ◌*◌, ◌≤◌, ◌<◌, min, ◌≡◌, refl, List, [], ◌∷◌, ◌++◌, Bool, true, false, ltb, length, take, drop, get_or}
use Rattle.std.proofs.Common.{ap, sym, ◌∙◌, append-nil, ltb-true, ltb-false, le_antisymm, add-one, arith, length-append, length-drop, length-take, take-suc, take_at, take_all, length-take-le, drop-drop}
use Rattle.std.proofs.lemmas.List.{length-replicate}
use Rattle.std.proofs.lemmas.List.Edits.{sets, sets-eq}
use Rattle.std.proofs.Math.Seq.{take-length, take-append_seam, drop-append-add}
use Rattle.laws.specs.Sums.{flat}
use Rattle.laws.specs.Rows.{rows}
use Rattle.laws.specs.RowLaws.{rows_length}
use Rattle.laws.specs.SumLaws.{flat_append}
use Rattle.plan.specs.Limits.{max_locks, most_tasks}
use Rattle.plan.specs.declared.Lock.{Lock}
use Rattle.plan.specs.Plan.{no_lock}
use Rattle.plan_tables.specs.Layout.{task_width, lock_width, lock_cells, over}
use Rattle.plan_tables.specs.FlatLaws.{flat_length, each_of}
use Rattle.records.specs.Sheet.{Task, blank_task, locks_to, task_nums, sheet_rows, cut_to, no_rows}

-- WRITING

pub sets_append : (xs ys l : List ℕ) (i : ℕ) → sets l i (xs ++ ys) ≡ sets (sets l i xs) (i + length xs) ys
sets_append [] ys l i = let e : i + 0 ≡ i = omega arith in rw e
sets_append (x ∷ xs) ys l i = let e : i + suc (length xs) ≡ suc i + length xs = omega arith in rw e (sets_append xs ys _ (suc i))

-- A RECORD

pub locks_long : (k : Task) (j : ℕ) → length (locks_to k j) ≡ j * lock_width
unfolding locks_to
locks_long k j =
    let xs : List Lock = rows j (λ i. get_or k.locks i no_lock) in
    flat_length lock_cells lock_width xs (each_of xs (λ x. refl)) ∙ ap (λ n. n * lock_width) (rows_length j (λ i. get_or k.locks i no_lock))

pub locks_more : (k : Task) (j : ℕ) → locks_to k (suc j) ≡ locks_to k j ++ lock_cells (get_or k.locks j no_lock)
unfolding locks_to rows flat
locks_more k j = flat_append lock_cells (rows j (λ i. get_or k.locks i no_lock)) (get_or k.locks j no_lock ∷ [])

pub nums_long : (k : Task) → length (task_nums k) ≡ task_width
unfolding task_nums
nums_long k = omega (arith, locks_long k max_locks)

-- one lock more is written, and all
pub lock_more :
    (k : Task) (d₀ d e : List ℕ) (c j : ℕ) → d ≡ sets d₀ c (locks_to k j) → e ≡ sets d (c + j * lock_width) (lock_cells (get_or k.locks j no_lock)) →
    e ≡ sets d₀ c (locks_to k (j + 1))
lock_more k d₀ d e c j h g =
    let p : c + j * lock_width ≡ c + length (locks_to k j) = omega (arith, locks_long k j) in
    rw add-one (g ∙ ap (λ u. sets u (c + j * lock_width) (lock_cells (get_or k.locks j no_lock))) h
    ∙ rw p (sym (sets_append (locks_to k j) (lock_cells (get_or k.locks j no_lock)) d₀ c)) ∙ ap (sets d₀ c) (sym (locks_more k j)))

pub locks_all :
    (k : Task) (d₀ d e : List ℕ) (c j : ℕ) → d ≡ sets d₀ c (k.v ∷ k.n ∷ k.period ∷ k.first ∷ k.count ∷ []) → e ≡ sets d (c + 5) (locks_to k j) →
    j ≤ max_locks → max_locks ≤ j → e ≡ sets d₀ c (task_nums k)
unfolding task_nums
locks_all k d₀ d e c j h g l m =
    let n : j ≡ max_locks = le_antisymm l m in
    g ∙ ap (λ u. sets u (c + 5) (locks_to k j)) h ∙ ap (λ i. sets (sets d₀ c (k.v ∷ k.n ∷ k.period ∷ k.first ∷ k.count ∷ [])) (c + 5) (locks_to k i)) n
    ∙ sym (sets_append (k.v ∷ k.n ∷ k.period ∷ k.first ∷ k.count ∷ []) (locks_to k max_locks) d₀ c)

-- A SLICE OF RECORDS

pub sheet_long : (ks : List Task) → length (sheet_rows ks) ≡ length ks * task_width
unfolding sheet_rows
sheet_long ks = flat_length task_nums task_width ks (each_of ks nums_long)

pub cut_long : (n : ℕ) (ks : List Task) → length (sheet_rows (cut_to n ks)) ≡ min n (length ks) * task_width
unfolding cut_to
cut_long n ks = sheet_long (take n ks) ∙ ap (λ m. m * task_width) (length-take n ks)

-- as many as there are
pub cut_few : (n : ℕ) (ks : List Task) → cut_to (min (length ks) n) ks ≡ cut_to n ks
unfolding cut_to
cut_few n ks = go (ltb (length ks) n) refl
  where
    go : (b : Bool) → ltb (length ks) n ≡ b → take (min (length ks) n) ks ≡ take n ks
    go true e =
        let l = ltb-true (length ks) n e in
        let m : min (length ks) n ≡ length ks = omega arith in
        rw m (take-length ks ∙ sym (take_all n ks (omega arith)))
    go false e =
        let l = ltb-false (length ks) n e in
        let m : min (length ks) n ≡ n = omega arith in
        rw m

pub cut_none : (ks : List Task) (t : List ℕ) → t ≡ over (sheet_rows (cut_to 0 ks)) t
unfolding cut_to sheet_rows flat
cut_none ks t = refl

-- the table keeps its length
pub over_long : (u t : List ℕ) → length u ≤ length t → length (over u t) ≡ length t
over_long u t h = omega (arith, length-append u (drop (length u) t), length-drop (length u) t)

-- one record more is written
pub cut_more :
    (ks : List Task) (t : List ℕ) (i : ℕ) → i < length ks → i * task_width + task_width ≤ length t →
    sets (over (sheet_rows (cut_to i ks)) t) (i * task_width) (task_nums (get_or ks i blank_task)) ≡ over (sheet_rows (cut_to (i + 1) ks)) t
unfolding cut_to sheet_rows flat
cut_more ks t i l h =
    let p : List ℕ = flat task_nums (take i ks) in
    let q : List ℕ = drop (length p) t in
    let vs : List ℕ = task_nums (get_or ks i blank_task) in
    let lv : length vs ≡ task_width = nums_long (get_or ks i blank_task) in
    let lp : length p ≡ i * task_width = flat_length task_nums task_width (take i ks) (each_of (take i ks) nums_long) ∙ ap (λ m. m * task_width) (length-take-le i ks (omega arith)) in
    let lq : length (p ++ q) ≡ length t = over_long p t (omega arith) in
    let grown : flat task_nums (take (i + 1) ks) ≡ p ++ vs =
    rw add-one (ap (flat task_nums) (take-suc ks i blank_task l) ∙ flat_append task_nums (take i ks) (get_or ks i blank_task ∷ []) ∙ ap (λ u. p ++ u) (append-nil vs)) in
    let en : i * task_width + length vs ≡ length p + task_width = omega arith in
    let em : length p + task_width ≡ length (p ++ vs) = omega (arith, length-append p vs) in
    sets-eq vs (p ++ q) (i * task_width) (omega arith)
    ∙ ap (λ u. u ++ vs ++ drop (i * task_width + length vs) (p ++ q)) (take_at p q (i * task_width) lp)
    ∙ ap (λ u. p ++ vs ++ u) (ap (λ n. drop n (p ++ q)) en ∙ drop-append-add p q task_width ∙ drop-drop task_width (length p) t)
    ∙ ap (λ n. (p ++ vs) ++ drop n t) em
    ∙ ap (λ u. over u t) (sym grown)

pub rows_long : length no_rows ≡ most_tasks * task_width
unfolding no_rows
rows_long = length-replicate {A = ℕ} (most_tasks * task_width) 0

-- THE ROWS THAT ARE LOADED

pub loaded_few : (ks : List Task) → length (sheet_rows (cut_to most_tasks ks)) ≤ most_tasks * task_width
loaded_few ks = let k = cut_long most_tasks ks in omega arith

pub loaded_long : (ks : List Task) → length (over (sheet_rows (cut_to most_tasks ks)) no_rows) ≡ most_tasks * task_width
loaded_long ks = over_long (sheet_rows (cut_to most_tasks ks)) no_rows (omega (arith, loaded_few ks, rows_long)) ∙ rows_long

pub loaded_front : (ks : List Task) → take (length (sheet_rows (cut_to most_tasks ks))) (over (sheet_rows (cut_to most_tasks ks)) no_rows) ≡ sheet_rows (cut_to most_tasks ks)
loaded_front ks = take-append_seam (sheet_rows (cut_to most_tasks ks)) _
