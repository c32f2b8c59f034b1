-- The same number of ticks of all cores' turns, core after core.
use Rattle.std.specs.Prelude.{ℕ, suc, ◌+◌, ◌-◌, ◌<◌, ◌≤◌, ◌≡◌, Bool, List, get_or}
use Rattle.std.proofs.Common.{subst, subst₂, ◌∙◌, arith}
use Rattle.plan.specs.declared.Policy.{Policy}
use Rattle.plan.specs.declared.OverrunChoice.{OverrunChoice}
use Rattle.clock_rules.specs.Clock.{cores, after_turns, run_from}
use Rattle.clock_marks.specs.Marks.{board_of, run_in, done_in}
use Rattle.clock_nexts.specs.Nexts.{Quiet}
use Rattle.clock_going.specs.Going.{timing_by, Going}
use Rattle.clock_plains.specs.Plains.{Spent}
use Rattle.clock_plains.specs.PlainTicks.{plain_ticks}
use Rattle.clock_reaches.specs.Stretches.{ticks_cell, vcpu_cell, task_cell}
use Rattle.clock_spends.specs.Spends.{Counted, Spending, Spendable}
use Rattle.clock_spends.specs.Spending.{plain_less, spend_needs, spent_is, spent_going, spent_counted, other_cell}

-- j ticks of the cores from c on may be spent
pub record Ready (p : Policy) (o : OverrunChoice) (t x os : List ℕ) (ss : List Bool) (hs ws : List ℕ) (c j : ℕ) (ls k pl : List ℕ) : Type 0 where
  pub going : Going p o t x ls os ss hs ws k
  pub counted : Counted (timing_by p o t x) (board_of ls os ss hs ws) (done_in k) pl
  pub some : 0 < j
  pub to : (i : ℕ) → c ≤ i → i ≤ 3 → j ≤ ticks_cell pl i

-- whatever the other lists are
pub record AllReady (p : Policy) (j : ℕ) (ls k pl : List ℕ) : Type 0 where
  pub choice : OverrunChoice
  pub view : List ℕ
  pub times : List ℕ
  pub over : List ℕ
  pub stopped : List Bool
  pub holder : List ℕ
  pub waits : List ℕ
  pub ready : Ready p choice view times over stopped holder waits 0 j ls k pl

-- j ticks of every core are spent
pub record SpentAll (p : Policy) (j : ℕ) (ls k pl ls' k' pl' : List ℕ) : Type 0 where
  pub ls₁ : List ℕ
  pub ls₂ : List ℕ
  pub ls₃ : List ℕ
  pub k₁ : List ℕ
  pub k₂ : List ℕ
  pub k₃ : List ℕ
  pub pl₁ : List ℕ
  pub pl₂ : List ℕ
  pub pl₃ : List ℕ
  pub s₀ : Spending p 0 j ls k pl ls₁ k₁ pl₁
  pub s₁ : Spending p 1 j ls₁ k₁ pl₁ ls₂ k₂ pl₂
  pub s₂ : Spending p 2 j ls₂ k₂ pl₂ ls₃ k₃ pl₃
  pub s₃ : Spending p 3 j ls₃ k₃ pl₃ ls' k' pl'

module _ {p : Policy} {o : OverrunChoice} {t x os : List ℕ} {ss : List Bool} {hs ws : List ℕ} {c j : ℕ} {ls k pl : List ℕ} (r : Ready p o t x os ss hs ws c j ls k pl) (l : c ≤ 3) where
  pub ready_needs : Spendable p c j ls k pl
  ready_needs = spend_needs r.going r.counted l r.some (r.to c (omega arith) l)

  module _ {ls' k' pl' : List ℕ} (s : Spending p c j ls k pl ls' k' pl') where
    pub ready_spent : Spent (timing_by p o t x) c (board_of ls os ss hs ws) (done_in k) (vcpu_cell pl c) (task_cell pl c) j (board_of ls' os ss hs ws) (done_in k')
    ready_spent = spent_is r.going r.counted l r.some (r.to c (omega arith) l) s

    pub ready_cell : (i : ℕ) → (i ≡ c → ⊥) → get_or pl' i 0 ≡ get_or pl i 0
    ready_cell = other_cell r.going r.counted l r.some (r.to c (omega arith) l) s

    pub ready_next : Ready p o t x os ss hs ws (c + 1) j ls' k' pl'
    ready_next = record {
      going = spent_going r.going r.counted l r.some (r.to c (omega arith) l) s;
      counted = spent_counted r.going r.counted l r.some (r.to c (omega arith) l) s;
      some = r.some;
      to = λ i a m. let e = ready_cell i (λ z. omega arith) in let q = r.to i (omega arith) m in omega arith;
    }

-- THE TICKS of all cores
module _ {p : Policy} {o : OverrunChoice} {t x os : List ℕ} {ss : List Bool} {hs ws : List ℕ} {j : ℕ} {ls k pl ls' k' pl' : List ℕ} (r : Ready p o t x os ss hs ws 0 j ls k pl) (s : SpentAll p j ls k pl ls' k' pl') where
  r₁ : Ready p o t x os ss hs ws 1 j s.ls₁ s.k₁ s.pl₁
  r₁ = ready_next r (omega arith) s.s₀

  r₂ : Ready p o t x os ss hs ws 2 j s.ls₂ s.k₂ s.pl₂
  r₂ = ready_next r₁ (omega arith) s.s₁

  r₃ : Ready p o t x os ss hs ws 3 j s.ls₃ s.k₃ s.pl₃
  r₃ = ready_next r₂ (omega arith) s.s₂

  pub ready_last : Ready p o t x os ss hs ws 4 j ls' k' pl'
  ready_last = ready_next r₃ (omega arith) s.s₃

  -- are those of the run, when the first of them is open
  pub all_ticks : (m i : ℕ) → ((y : ℕ) → y < j - 1 → Quiet (timing_by p o t x) (i + y)) →
      run_from (timing_by p o t x) (j - 1 + m) i (after_turns (timing_by p o t x) cores (run_in ls os ss hs ws k)) ≡ run_from (timing_by p o t x) m (i + (j - 1)) (run_in ls' os ss hs ws k')
  all_ticks m i q =
      let T = timing_by p o t x in
      let up : j ≡ suc (j - 1) = let y = r.some in omega arith in
      let cell₁ = ready_cell r (omega arith) s.s₀ in
      let cell₂ = ready_cell r₁ (omega arith) s.s₁ in
      let cell₃ = ready_cell r₂ (omega arith) s.s₂ in
      plain_ticks r.going.paced (vcpu_cell pl) (task_cell pl) m (j - 1) i r.going.running (λ c l. let z = r.to c (omega arith) l in let y = r.some in plain_less (r.counted.core c l (omega arith)) (omega arith)) q
      (subst (λ u. Spent T 0 (board_of ls os ss hs ws) (done_in k) (vcpu_cell pl 0) (task_cell pl 0) u (board_of s.ls₁ os ss hs ws) (done_in s.k₁)) up (ready_spent r (omega arith) s.s₀))
      (subst (λ u. Spent T 1 (board_of s.ls₁ os ss hs ws) (done_in s.k₁) (vcpu_cell pl 1) (task_cell pl 1) u (board_of s.ls₂ os ss hs ws) (done_in s.k₂)) up
      (subst₂ (λ v n. Spent T 1 (board_of s.ls₁ os ss hs ws) (done_in s.k₁) v n j (board_of s.ls₂ os ss hs ws) (done_in s.k₂)) (cell₁ 5 (λ z. omega arith)) (cell₁ 9 (λ z. omega arith))
      (ready_spent r₁ (omega arith) s.s₁)))
      (subst (λ u. Spent T 2 (board_of s.ls₂ os ss hs ws) (done_in s.k₂) (vcpu_cell pl 2) (task_cell pl 2) u (board_of s.ls₃ os ss hs ws) (done_in s.k₃)) up
      (subst₂ (λ v n. Spent T 2 (board_of s.ls₂ os ss hs ws) (done_in s.k₂) v n j (board_of s.ls₃ os ss hs ws) (done_in s.k₃)) (cell₂ 6 (λ z. omega arith) ∙ cell₁ 6 (λ z. omega arith))
      (cell₂ 10 (λ z. omega arith) ∙ cell₁ 10 (λ z. omega arith)) (ready_spent r₂ (omega arith) s.s₂)))
      (subst (λ u. Spent T 3 (board_of s.ls₃ os ss hs ws) (done_in s.k₃) (vcpu_cell pl 3) (task_cell pl 3) u (board_of ls' os ss hs ws) (done_in k')) up
      (subst₂ (λ v n. Spent T 3 (board_of s.ls₃ os ss hs ws) (done_in s.k₃) v n j (board_of ls' os ss hs ws) (done_in k'))
      (cell₃ 7 (λ z. omega arith) ∙ cell₂ 7 (λ z. omega arith) ∙ cell₁ 7 (λ z. omega arith)) (cell₃ 11 (λ z. omega arith) ∙ cell₂ 11 (λ z. omega arith) ∙ cell₁ 11 (λ z. omega arith))
      (ready_spent r₃ (omega arith) s.s₃)))

pub spent_all : {p : Policy} {j : ℕ} {ls k pl ls₁ k₁ pl₁ ls₂ k₂ pl₂ ls₃ k₃ pl₃ ls' k' pl' : List ℕ} → Spending p 0 j ls k pl ls₁ k₁ pl₁ → Spending p 1 j ls₁ k₁ pl₁ ls₂ k₂ pl₂ →
    Spending p 2 j ls₂ k₂ pl₂ ls₃ k₃ pl₃ → Spending p 3 j ls₃ k₃ pl₃ ls' k' pl' → SpentAll p j ls k pl ls' k' pl'
spent_all {ls₁} {k₁} {pl₁} {ls₂} {k₂} {pl₂} {ls₃} {k₃} {pl₃} a b c d = record {
  ls₁ = ls₁;
  ls₂ = ls₂;
  ls₃ = ls₃;
  k₁ = k₁;
  k₂ = k₂;
  k₃ = k₃;
  pl₁ = pl₁;
  pl₂ = pl₂;
  pl₃ = pl₃;
  s₀ = a;
  s₁ = b;
  s₂ = c;
  s₃ = d;
}
