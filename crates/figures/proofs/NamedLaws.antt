-- The row of a name is that one's and no other's: of a valid plan's VCPU, of its task, and of a lock at its place.
use Rattle.std.specs.Prelude.{ℕ, suc, ◌+◌, ◌-◌, ◌<◌, ◌≡◌, refl, true, ◌&&◌, ◌↔◌, length, get_or, take, drop}
use Rattle.std.proofs.Common.{ap, sym, ◌∙◌, inl, inr, ⊎_elim, arith, length-append, length-take}
use mathlib.Core.List.{List, [], ◌∷◌, Memᴰ}
use borrow.Author.Tests.{eqb-true, eq-eqb, ne_eqb, le-leb}
use Rattle.std.proofs.Math.Dec.{eqb}
use Rattle.std.proofs.lemmas.List.{get_or_at}
use Rattle.std.proofs.Math.Seq.{split_at}
use Rattle.laws.specs.BoolLaws.{both, both_left, both_right, is_false, both_exactly}
use Rattle.laws.specs.Sums.{Each, Chain, Has, Pairs, flat}
use Rattle.laws.specs.SumLaws.{each_map, each_flat, any_exactly}
use Rattle.plan.specs.declared.Lock.{Lock}
use Rattle.plan.specs.Plan.{Vcpu, Task, Section, Plan, tasks_of}
use Rattle.plan.specs.Declares.{GlobalMutex}
use Rattle.plan.specs.Valid.{PairRises, TaskValid, SectionValid, Valid}
use Rattle.plan.specs.Rules.{within}
use Rattle.plan.proofs.RuleLaws.{in_range_law}
use Rattle.plan.proofs.LookupLaws.{global_exactly}
use Rattle.plan.specs.ListLaws.{chain_rest, chain_pairs, rising_above, rising_pairs, pairs_append, pairs_map, first_named}
use Rattle.figures.specs.System.{System, system}
use Rattle.figures.specs.Figures.{no_vcpu, vcpu_at, is_section}
use Rattle.figures.specs.Named.{no_task, no_lock, has_task, task_at, lock_at, has_section, Placed}

-- two tasks of one name
abbrev Same : Task → Task → Type 0
Same j k = (j.v ≡ k.v) × (j.n ≡ k.n)

abbrev pub Apart : Task → Task → Type 0
Apart j k = Same j k → ⊥

-- the test of a task's name
pub named_exactly : (k : Task) (v n : ℕ) → ((eqb k.v v && eqb k.n n) ≡ true) ↔ ((k.v ≡ v) × (k.n ≡ n))
named_exactly k v n = both_exactly (eqb-true k.v v, eq-eqb k.v v) (eqb-true k.n n, eq-eqb k.n n)

rises_apart : (j k : Task) → PairRises j.v j.n k.v k.n → Apart j k
rises_apart j k r s = ⊎_elim (λ l. let a = s.0 in omega arith) (λ l. let a = s.1 in let b = l.1 in omega arith) r

rises_on : (i j k : Task) → PairRises i.v i.n j.v j.n → PairRises j.v j.n k.v k.n → PairRises i.v i.n k.v k.n
rises_on i j k =
    ⊎_elim (λ a. ⊎_elim (λ b. inl (omega arith)) (λ b. inl (let c = b.0 in omega arith)))
    (λ a. ⊎_elim (λ b. inl (let c = a.0 in omega arith)) (λ b. inr (a.0 ∙ b.0, let c = a.1 in let d = b.1 in omega arith)))

module _ {p : Plan} (h : Valid p) where
  vcpus_apart : Pairs (λ r s. r.v < s.v) p.vcpus
  vcpus_apart = rising_pairs (λ r. r.v) p.vcpus h.vcpus_rise

  -- the VCPU that is found by the v of one is that one
  pub vcpu_named : (x : Vcpu) → Memᴰ x p.vcpus → vcpu_at (system p) x.v ≡ x
  unfolding vcpu_at
  vcpu_named x m =
      first_named (λ y. eqb y.v x.v) no_vcpu (λ r s. r.v < s.v) x p.vcpus vcpus_apart
      (λ y l. ne_eqb y.v x.v (λ z. omega arith)) (eq-eqb x.v x.v refl) m

  -- a VCPU has one guest, so that tasks of two sections have other names
  one_guest : (g f : ℕ) (j k : Task) → TaskValid p.vcpus p.mutexes p.opens g j → TaskValid p.vcpus p.mutexes p.opens f k → j.v ≡ k.v → g ≡ f
  one_guest g f j k a b e =
      let x = a.own_vcpu_law in
      let y = b.own_vcpu_law in
      sym x.2.1
      ∙ ap (λ (z : Vcpu). z.guest) (sym (vcpu_named x.0 x.1) ∙ ap (vcpu_at (system p)) (x.2.0 ∙ e ∙ sym y.2.0) ∙ vcpu_named y.0 y.1)
      ∙ y.2.1

  -- no two tasks of a valid plan have one name
  pub tasks_apart : Pairs Apart (tasks_of p.sections)
  unfolding tasks_of flat
  tasks_apart = go p.sections h.sections_rise h.sections_valid
    where
      go :
          (ss : List Section) → Chain (λ r s. r.guest < s.guest) ss → Each (SectionValid p.vcpus p.mutexes p.opens) ss →
          Pairs Apart (tasks_of ss)
      go [] c v = tt
      go (s ∷ ss) c v =
          pairs_append Apart s.tasks (tasks_of ss)
          (pairs_map _ Apart s.tasks rises_apart (chain_pairs (λ i j. PairRises i.v i.n j.v j.n) rises_on s.tasks v.0.tasks_rise))
          (go ss (chain_rest (λ r s. r.guest < s.guest) s ss c) v.1)
          (each_map s.tasks (λ j a. later j a ss (rising_above (λ r. r.guest) s ss c) v.1) v.0.tasks_valid)
        where
          later :
              (j : Task) → TaskValid p.vcpus p.mutexes p.opens s.guest j → (rs : List Section) → Each (λ r. s.guest < r.guest) rs →
              Each (SectionValid p.vcpus p.mutexes p.opens) rs → Each (Apart j) (tasks_of rs)
          later j a rs l w = each_flat (Apart j) (λ s. s.tasks) rs (other rs l w)
            where
              other :
                  (rs : List Section) → Each (λ r. s.guest < r.guest) rs → Each (SectionValid p.vcpus p.mutexes p.opens) rs →
                  Each (λ r. Each (Apart j) r.tasks) rs
              other [] l w = tt
              other (r ∷ rs) l w = (
                each_map r.tasks (λ k b e. let q = one_guest s.guest r.guest j k a b e.0 in let d = l.0 in omega arith) w.0.tasks_valid,
                other rs l.1 w.1,
              )

  -- the task that is found by the v and n of one is that one
  pub task_named : (k : Task) → Memᴰ k (tasks_of p.sections) → task_at (system p) k.v k.n ≡ k
  unfolding task_at
  task_named k m =
      first_named (λ j. eqb j.v k.v && eqb j.n k.n) no_task Apart k (tasks_of p.sections) tasks_apart
      (λ j a. is_false _ (λ e. a ((named_exactly j k.v k.n).0 e))) ((named_exactly k k.v k.n).1 (refl, refl)) m

-- task (v, n) is in the plan exactly when a task of it has this v and this n
pub has_task_exactly : (s : System) (v n : ℕ) → (has_task s v n ≡ true) ↔ Has (λ k. (k.v ≡ v) × (k.n ≡ n)) s.tasks
unfolding has_task
has_task_exactly s v n = any_exactly _ s.tasks (λ k. named_exactly k v n)

-- the lock at a place
pub lock_named : (k : Task) (i : ℕ) (l : Lock) → Placed k.locks i l → lock_at k i ≡ l
unfolding lock_at
lock_named k i l q =
    ap (λ (ls : List Lock). get_or ls (i - 1) no_lock) q.2 ∙ get_or_at q.0 l q.1 no_lock (i - 1) (let a = q.3 in omega arith)

-- at place i of task k stands a global section exactly when the lock that stands there is on a global mutex
pub section_exactly : (s : System) (k : Task) (i : ℕ) → (has_section s k i ≡ true) ↔ ((l : Lock) × Placed k.locks i l × GlobalMutex s.mutexes l.m)
unfolding has_section lock_at
section_exactly s k i =
    let ls : List Lock = k.locks in (
      λ e.
          let q = in_range_law i 1 (length ls) (both_left (within i 1 (length ls)) _ e) in
          let at : i - 1 < length ls = omega (arith, q.0, q.1) in (
            get_or ls (i - 1) no_lock,
            (take (i - 1) ls, drop (suc (i - 1)) ls, split_at ls (i - 1) no_lock at, omega (arith, q.0, length-take (i - 1) ls)),
            (global_exactly s.mutexes (get_or ls (i - 1) no_lock).m).0 (both_right (within i 1 (length ls)) _ e),
          ),
      λ q.
          let long : length ls ≡ length q.1.0 + suc (length q.1.1) = ap length q.1.2 ∙ length-append q.1.0 (q.0 ∷ q.1.1) in
          let at = q.1.3 in
          both (within i 1 (length ls)) _
          (both _ _ (le-leb 1 i (omega arith)) (le-leb i (length ls) (omega arith)))
          (ap (is_section s) (lock_named k i q.0 q.1) ∙ (global_exactly s.mutexes q.0.m).1 q.2),
    )
