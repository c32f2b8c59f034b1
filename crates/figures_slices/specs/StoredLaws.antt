-- Laws of loops that store figures: before the first, one more, another column; the response in its parts.
use Rattle.std.specs.Prelude.{ℕ, ◌+◌, ◌*◌, ◌/◌, ◌%◌, ◌≤◌, ◌<◌, ◌≡◌, refl, List, length, get_or, set}
use Rattle.std.proofs.Common.{ap, ap₂, ◌∙◌, arith, below_more, length-set, get_or-set_same, get_or-set_other}
use Rattle.laws.specs.Sums.{up}
use Rattle.laws.specs.Rows.{Is}
use Rattle.plan.specs.declared.Policy.{Policy}
use Rattle.plan.specs.declared.Policy.TheVariants.{Periodic, Deferrable}
use Rattle.plan.specs.declared.OverrunChoice.{OverrunChoice}
use Rattle.plan.specs.declared.OverrunChoice.TheVariants.{WithOverrun, WithoutOverrun}
use Rattle.plan.specs.declared.Lock.{Lock}
use Rattle.plan.specs.Plan.{Vcpu, Task}
use Rattle.figures.specs.System.{System}
use Rattle.figures.specs.Figures.{longest_global, global_sum, global_count, lengths, vcpu_at, ght, overrun_by, overrun_of, vcpu_start, gap, load, preemption, response_by, response}
use Rattle.figures.specs.PartLaws.{is_then}
use Rattle.figures_slices.specs.Stored.{ValuesAt, TaskFigures, VcpuFigures, Responses, max_response, section_response, response_for}

-- STORES
module _ {place : ℕ → ℕ} {b : ℕ} {f : ℕ → ℕ} {xs : List ℕ} where
  pub values_none : ValuesAt place b 0 f xs
  values_none = record { at = λ i l. absurd (omega arith) }

  -- what holds below i, and the store at i's place, give it below i + 1
  pub values_more :
      {x : ℕ} (i : ℕ) → ValuesAt place b i f xs → ((j : ℕ) → j < i → place j ≡ place i → ⊥) → place i < length xs → Is x (f i) b →
      ValuesAt place b (i + 1) f (set xs (place i) x)
  values_more {x} i h d l e =
      record {
        at =
            below_more _ _ (λ j m. rw (get_or-set_other xs (place i) (place j) x 0 (d j m)) (h.at j m))
            (rw (get_or-set_same xs (place i) x 0 l) e);
      }

  -- a store elsewhere
  pub values_keep : {n : ℕ} (k x : ℕ) → ValuesAt place b n f xs → ((j : ℕ) → j < n → place j ≡ k → ⊥) → ValuesAt place b n f (set xs k x)
  values_keep k x h d = record { at = λ j m. rw (get_or-set_other xs k (place j) x 0 (d j m)) (h.at j m) }

  -- after the last
  pub values_all : {n i : ℕ} → ValuesAt place b i f xs → n ≤ i → ValuesAt place b n f xs
  values_all h l = record { at = λ j m. h.at j (omega arith) }

module _ {s : System} {row : ℕ → Task} {tf : List ℕ} where
  pub tasks_none : TaskFigures s row 0 tf
  tasks_none = record { room = omega arith; longest = values_none; sums = values_none; counts = values_none; spans = values_none }

  -- the four stores of row i
  pub tasks_more :
      {x y z w : ℕ} (i : ℕ) → TaskFigures s row i tf → i * 5 + 5 ≤ length tf → Is x (longest_global s (row i)) 1000000 → Is y (global_sum s (row i)) 8000000 →
      Is z (global_count s (row i)) 8 → Is w (lengths (row i)) 17000000 →
      TaskFigures s row (i + 1) (set (set (set (set tf (i * 5) x) (i * 5 + 1) y) (i * 5 + 2) z) (i * 5 + 3) w)
  tasks_more {x} {y} {z} {w} i h l a b c d =
      record {
        room = simp length-set (omega arith);
        longest =
            values_keep (i * 5 + 3) w
            (values_keep (i * 5 + 2) z (values_keep (i * 5 + 1) y (values_more i h.longest (λ j m. omega arith) (omega arith) a) (λ j m. omega arith)) (λ j m. omega arith))
            (λ j m. omega arith);
        sums =
            values_keep (i * 5 + 3) w
            (values_keep (i * 5 + 2) z (values_more i (values_keep (i * 5) x h.sums (λ j m. omega arith)) (λ j m. omega arith) (simp length-set (omega arith)) b) (λ j m. omega arith))
            (λ j m. omega arith);
        counts =
            values_keep (i * 5 + 3) w
            (values_more i (values_keep (i * 5 + 1) y (values_keep (i * 5) x h.counts (λ j m. omega arith)) (λ j m. omega arith)) (λ j m. omega arith) (simp length-set (omega arith)) c)
            (λ j m. omega arith);
        spans =
            values_more i (values_keep (i * 5 + 2) z (values_keep (i * 5 + 1) y (values_keep (i * 5) x h.spans (λ j m. omega arith)) (λ j m. omega arith)) (λ j m. omega arith))
            (λ j m. omega arith) (simp length-set (omega arith)) d;
      }

  -- the column of local blockings is another
  pub tasks_keep : {n : ℕ} (i x : ℕ) → TaskFigures s row n tf → TaskFigures s row n (set tf (i * 5 + 4) x)
  tasks_keep i x h =
      record {
        room = simp length-set h.room;
        longest = values_keep (i * 5 + 4) x h.longest (λ j m. omega arith);
        sums = values_keep (i * 5 + 4) x h.sums (λ j m. omega arith);
        counts = values_keep (i * 5 + 4) x h.counts (λ j m. omega arith);
        spans = values_keep (i * 5 + 4) x h.spans (λ j m. omega arith);
      }

  pub tasks_all : {n i : ℕ} → TaskFigures s row i tf → n ≤ i → TaskFigures s row n tf
  tasks_all h l =
      record {
        room = omega arith;
        longest = values_all h.longest l;
        sums = values_all h.sums l;
        counts = values_all h.counts l;
        spans = values_all h.spans l;
      }

module _ {s : System} {row : ℕ → Vcpu} {vf : List ℕ} where
  pub vcpus_none : 48 ≤ length vf → VcpuFigures s row 0 vf
  vcpus_none h = record { room = h; ghts = values_none; starts = values_none }

  -- the two stores of row a
  pub vcpus_more :
      {x y : ℕ} (a : ℕ) → VcpuFigures s row a vf → a < 16 → Is x (ght s (row a).v) 64000000 → Is y (vcpu_start s (row a)) 65000000 →
      VcpuFigures s row (a + 1) (set (set vf (a * 3) x) (a * 3 + 1) y)
  vcpus_more {x} {y} a h l d e =
      record {
        room = simp length-set h.room;
        ghts = values_keep (a * 3 + 1) y (values_more a h.ghts (λ j m. omega arith) (omega arith) d) (λ j m. omega arith);
        starts = values_more a (values_keep (a * 3) x h.starts (λ j m. omega arith)) (λ j m. omega arith) (simp length-set (omega arith)) e;
      }

  -- the column of preemptions is another
  pub vcpus_keep : {n : ℕ} (a x : ℕ) → VcpuFigures s row n vf → VcpuFigures s row n (set vf (a * 3 + 2) x)
  vcpus_keep a x h =
      record {
        room = simp length-set h.room;
        ghts = values_keep (a * 3 + 2) x h.ghts (λ j m. omega arith);
        starts = values_keep (a * 3 + 2) x h.starts (λ j m. omega arith);
      }

  pub vcpus_all : {n a : ℕ} → VcpuFigures s row a vf → n ≤ a → VcpuFigures s row n vf
  vcpus_all h l = record { room = h.room; ghts = values_all h.ghts l; starts = values_all h.starts l }

-- the response of lock j of task i
pub response_at :
    (s : System) (t : List ℕ) {rf : List ℕ} {n : ℕ} (i j : ℕ) → Responses s t (n * 8) rf → i < n → j < 8 → Is (get_or rf (i * 8 + j) 0) (section_response s t i j) max_response
response_at s t i j h l m =
    let e : (i * 8 + j) / 8 ≡ i = omega arith in
    let g : (i * 8 + j) % 8 ≡ j = omega arith in
    let k = h.at (i * 8 + j) (omega arith) in
    record { is = k.is ∙ ap₂ (section_response s t) e g; small = k.small }

-- EQUATIONS 14 TO 16
pub response_for_law :
    (p : Policy) (o : OverrunChoice) (x : Vcpu) (load pre : ℕ) → response_for p o (gap x) x.budget load pre ≡ response_by p o x load pre
response_for_law Periodic WithOverrun x load pre = refl
response_for_law Deferrable WithOverrun x load pre = refl
response_for_law Periodic WithoutOverrun x load pre = refl
response_for_law Deferrable WithoutOverrun x load pre = refl

-- without overrun the policy makes no difference
pub response_without :
    (p : Policy) (gap budget load pre : ℕ) → up load budget * gap + load + pre ≡ response_for p WithoutOverrun gap budget load pre
response_without Periodic gap budget load pre = refl
response_without Deferrable gap budget load pre = refl

-- the parts were read
pub response_read :
    {y k g b u : ℕ} (p : Policy) (o : OverrunChoice) (x : Vcpu) (load pre : ℕ) → g ≡ gap x → b ≡ x.budget → u ≡ pre →
    Is y (response_for p o g b load u) k → Is y (response_by p o x load pre) k
response_read p o x load pre d e f h = is_then h (rw (d, e, f) (response_for_law p o x load pre))

pub response_is :
    {y k n : ℕ} (s : System) (t : Task) (l : Lock) (x : Vcpu) → vcpu_at s t.v ≡ x → n ≡ load s t l →
    Is y (response_by s.policy s.overrun x n (preemption s x)) k → Is y (response s t l) k
unfolding response
response_is s t l x e f h = rw (e, ← f) h

-- budget with overrun, of a stored ght
pub start_is :
    {b g w : ℕ} (s : System) (x : Vcpu) → Is b x.budget 1000000 → Is g (ght s x.v) 64000000 → Is w (overrun_by s.overrun g) g →
    Is (b + w) (vcpu_start s x) 65000000
unfolding vcpu_start overrun_of
start_is s x h g w = record { is = ap₂ ◌+◌ h.is (w.is ∙ ap (overrun_by s.overrun) g.is); small = omega arith }
