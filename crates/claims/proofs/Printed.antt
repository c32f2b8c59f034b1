-- Demand 3 of what `verdict` prints: of a byte string that is accepted, the line of each row of the plan stands in the text, with what is reported of it.
use Rattle.std.specs.Prelude.{ℕ, ◌≤◌, ◌≡◌, refl, Bool, true, ◌↔◌, length}
use Rattle.std.proofs.Math.Path.{ap, sym}
use Rattle.std.proofs.Common.{subst, ◌∙◌, le-ltb}
use Rattle.std.proofs.lemmas.Bool.{false≢true}
use mathlib.Core.List.{List, [], ◌∷◌, ◌++◌, append_assoc, Memᴰ}
use Rattle.laws.specs.BoolLaws.{both_exactly}
use Rattle.laws.specs.Sums.{all, flat}
use Rattle.laws.specs.SumLaws.{all_each, each_all, each_map, each_has, members}
use Rattle.search.specs.declared.Answer.{Answer}
use Rattle.search.specs.declared.Answer.TheVariants.{Fits, Late}
use Rattle.plan.specs.Limits.{max_v, max_n, max_input}
use Rattle.plan.specs.Line.{w_one}
use Rattle.plan.specs.Plan.{Vcpu, Task, Plan, tasks_of}
use Rattle.plan.proofs.LookupLaws.{global_exactly}
use Rattle.plan.specs.Valid.{In, Valid}
use Rattle.plan.specs.Reading.{Accepts, reading}
use Rattle.plan.proofs.Accepted.{read_text_law}
use Rattle.plan_tables.proofs.GivenLaws.{tasks_valid}
use Rattle.figures.specs.System.{System, system}
use Rattle.figures.specs.Figures.{task_demand}
use Rattle.figures.specs.declared.TaskAnswer.{TaskAnswer}
use Rattle.figures.specs.declared.TaskAnswer.TheVariants.{Searched, NoWait, Held}
use Rattle.figures.specs.Answers.{vcpu_answer, wait_answer, task_answer, is_fits, task_fits, all_fit, remote_waits}
use Rattle.listing.specs.Listing.{w_verdict, line, vcpu_line, wait_line, wait_lines, task_line, task_lines, rising, all_line, listing, read_text, verdict_text}
use Rattle.listing.specs.ListingLaws.{Ended, Stands}
use Rattle.listing.proofs.ListingLaws.{ended_append, ended_flat, line_ended, vcpu_line_ended, wait_lines_ended, task_lines_ended, stands_self, stands_left, stands_right, stands_flat, rising_rises, rising_only, in_rising, placed_stands}
use Rattle.claims.specs.Reported.{Reports, NoNumber, HeldUp, TaskReported, HasNumber, RowsPrinted}
use Rattle.claims.proofs.Reports.{vcpu_answer_reports, wait_answer_reports, task_answer_reports}

-- FITS

fits_exactly : (a : Answer) → (is_fits a ≡ true) ↔ ((w : ℕ) × (n : ℕ) × (a ≡ Fits w n))
fits_exactly (Fits w n) = (λ e. (w, n, refl), λ q. refl)
fits_exactly (Late n) = (λ e. absurd (false≢true e), λ q. ap is_fits q.2)

reports_fits : {d : ℕ → ℕ} {s l : ℕ} (a : Answer) → Reports d s l a → (is_fits a ≡ true) ↔ HasNumber d l
reports_fits a h = (λ e. h.exactly.0 ((fits_exactly a).0 e), λ q. (fits_exactly a).1 (h.exactly.1 q))

-- a task fits exactly when it has a number and rests on no wait without one
task_fits_law :
    (s : System) (k : Task) →
    (task_fits (task_answer s k) ≡ true) ↔ ((¬ NoNumber s k) × (¬ HeldUp s k) × HasNumber (task_demand s (remote_waits s) k) k.period)
task_fits_law s k = go (task_answer s k) (task_answer_reports s k)
  where
    go :
        (a : TaskAnswer) → TaskReported s k a →
        (task_fits a ≡ true) ↔ ((¬ NoNumber s k) × (¬ HeldUp s k) × HasNumber (task_demand s (remote_waits s) k) k.period)
    go (Searched a) h = (λ e. (h.0, h.1, (reports_fits a h.2).0 e), λ q. (reports_fits a h.2).1 q.2)
    go NoWait h = (λ e. absurd (false≢true e), λ q. absurd (q.0 h))
    go Held h = (λ e. absurd (false≢true e), λ q. absurd (q.1 h.1))

-- every member passes
all_exactly : {A : Type 0} {P : A → Type 0} (f : A → Bool) (xs : List A) → ((x : A) → (f x ≡ true) ↔ P x) → (all f xs ≡ true) ↔ ((x : A) → Memᴰ x xs → P x)
all_exactly f xs g = (
  λ e x m. (g x).0 (each_has (λ y. f y ≡ true) xs (all_each f xs e) m),
  λ h. each_all f xs (each_map xs (λ x m. (g x).1 (h x m)) (members xs)),
)

-- THE TEXT

module _ {p : Plan} (h : Valid p) where
  abbrev S : System
  S = system p

  -- the listing's parts before its last line
  abbrev head_text : List ℕ
  head_text = line (w_verdict ∷ w_one ∷ [])

  abbrev vcpus_text : List ℕ
  vcpus_text = flat (vcpu_line S) p.vcpus

  abbrev tasks_text : List ℕ
  tasks_text = flat (task_lines S) (rising S)

  head_ended : Ended head_text
  head_ended = line_ended _

  vcpus_ended : Ended vcpus_text
  vcpus_ended = ended_flat (vcpu_line_ended S) p.vcpus

  vcpu_stands : (x : Vcpu) → Memᴰ x p.vcpus → Stands (vcpu_line S x) (listing S)
  unfolding listing
  vcpu_stands x m =
      stands_right head_text head_ended (stands_left (tasks_text ++ all_line S) (stands_flat (vcpu_line S) (vcpu_line_ended S) p.vcpus m (stands_self _)))

  task_stands : (k : Task) → Memᴰ k (tasks_of p.sections) → (l : List ℕ) → Stands l (task_lines S k) → Stands l (listing S)
  unfolding listing
  task_stands k m l s =
      let r = each_has (λ j. In j.v 1 max_v × In j.n 1 max_n) (tasks_of p.sections) (tasks_valid h (λ g j w. (w.v_in, w.n_in))) m in
      stands_right head_text head_ended
      (stands_right vcpus_text vcpus_ended (stands_left (all_line S) (stands_flat (task_lines S) (task_lines_ended S) (rising S) (in_rising S k r.0 r.1 m) s)))

  last_stands : listing S ≡ (head_text ++ (vcpus_text ++ tasks_text)) ++ all_line S
  unfolding listing
  last_stands = ap (λ x. head_text ++ x) (sym (append_assoc vcpus_text tasks_text (all_line S))) ∙ sym (append_assoc head_text (vcpus_text ++ tasks_text) (all_line S))

  before_last_ended : Ended (head_text ++ (vcpus_text ++ tasks_text))
  before_last_ended =
      ended_append head_text (vcpus_text ++ tasks_text) head_ended (ended_append vcpus_text tasks_text vcpus_ended (ended_flat (task_lines_ended S) (rising S)))

  pub listing_printed : RowsPrinted p (listing S)
  unfolding vcpu_line wait_line task_line task_lines all_line all_fit
  listing_printed = record {
    listed = refl;
    vcpus_rise = h.vcpus_rise;
    rises = rising_rises h;
    none_else = rising_only S;
    vcpus = λ x m. (vcpu_answer S x, vcpu_stands x m, vcpu_answer_reports S x);
    waits =
        λ k m i l q g. (
          wait_answer S k l,
          task_stands k m (wait_line S k i l) (stands_left (task_line S k) (placed_stands S k i l q ((global_exactly p.mutexes l.m).1 g))),
          wait_answer_reports S k l,
        );
    tasks =
        λ k m. (
          task_answer S k,
          task_stands k m (task_line S k) (stands_right (wait_lines S k 1 k.locks) (wait_lines_ended S k 1 k.locks) (stands_self (task_line S k))),
          task_answer_reports S k,
        );
    last = (
      all_fit S,
      head_text ++ (vcpus_text ++ tasks_text),
      last_stands,
      before_last_ended,
      both_exactly
          (all_exactly (λ x. is_fits (vcpu_answer S x)) p.vcpus (λ x. reports_fits (vcpu_answer S x) (vcpu_answer_reports S x)))
          (all_exactly (λ k. task_fits (task_answer S k)) (tasks_of p.sections) (task_fits_law S)),
    );
  }

-- FROM THE BYTES: what `verdict` prints for an accepted plan, where the input is not above 65,536 bytes
pub verdict_printed : (s : List ℕ) (p : Plan) → length s ≤ max_input → reading s ≡ Accepts p → RowsPrinted p (verdict_text s)
unfolding verdict_text
verdict_printed s p few e =
    let prints : verdict_text s ≡ listing (system p) = rw (le-ltb max_input (length s) few, verdict_text) (ap read_text e) in
    subst (RowsPrinted p) (sym prints) (listing_printed (read_text_law s p e).0)
