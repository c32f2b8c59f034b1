-- Whoever is to ask has been picked.
use Rattle.std.specs.Prelude.{ℕ, ◌≡◌, List}
use Rattle.std.proofs.Common.{sym, ap, subst, ◌∙◌}
use Rattle.board_rules.specs.declared.Board.{Board}
use Rattle.board_rules.specs.declared.Next.{Next}
use Rattle.board_rules.specs.declared.Next.TheVariants.{To}
use Rattle.board_rules.specs.BoardLaws.{next_none, next_some}
use Rattle.clock_rules.specs.Clock.{Timing, picked}
use Rattle.clock_steps.specs.Picked.{next_v, next_n, nobody_picks, Chosen, Picked, nobody, somebody, picks}
use Rattle.clock_takes.specs.AskCases.{due_to}
use Rattle.clock_takes.specs.Asked.{PickIs, Asker}

module _ {T : Timing} {c : ℕ} {b : Board} {d : List ℕ} where
  -- a task that is picked may be picked
  chosen_by : {x : Next} → Picked T c b d x → (v n : ℕ) → x ≡ To v n → Chosen T c b d v n
  chosen_by nobody v n e = absurd (nobody_picks e)
  chosen_by (somebody w y q) v n e = subst (λ a. Chosen T c b d v a) (ap next_n e) (subst (λ a. Chosen T c b d a y) (ap next_v e) q)

  pub picked_chosen : {v n : ℕ} → picked T c b d ≡ To v n → Chosen T c b d v n
  picked_chosen {v} {n} e = chosen_by (picks T c b d) v n e

  module _ {v n m : ℕ} (g : PickIs T c b d v n m) (nz : m ≡ 0 → ⊥) where
    -- where something is due, somebody is picked
    pub asker_task : n ≡ 0 → ⊥
    asker_task z = nz (g.is_due_law ∙ ap (due_to T b d) (next_none v n z))

    pub asker_picked : picked T c b d ≡ To v n
    asker_picked = g.is_pick ∙ next_some v n asker_task

    pub asker : Asker T b d v n m
    asker = record { core = c; is_picked = asker_picked; chosen = picked_chosen asker_picked; is_due_law = sym (g.is_due_law ∙ ap (due_to T b d) (next_some v n asker_task)); some = nz }
