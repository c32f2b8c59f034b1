-- What is written is answered so exactly where document 02 says; "Reading them gives the same tables, and an accepted plan read and written comes back byte for byte".
use Rattle.std.specs.Prelude.{ℕ, ◌*◌, ◌≤◌, ◌<◌, ◌≡◌, refl, List, ◌++◌, Bool, true, false, ◌↔◌, leb, length, take, drop, Ok, Result, Err}
use Rattle.std.proofs.Common.{ap, sym, subst, ◌∙◌, true≢false, arith, leb-true, leb-false, take_at, drop_at}
use Rattle.laws.specs.Sums.{flat, Each}
use Rattle.laws.specs.SumLaws.{each_map}
use Rattle.plan.specs.declared.Refusal.{Refusal}
use Rattle.plan.specs.declared.Refusal.TheVariants.{Room, Foreign}
use Rattle.plan.specs.Plan.{Task, Plan, tasks_of}
use Rattle.plan.specs.Valid.{Valid}
use Rattle.plan.specs.Text.{text}
use Rattle.plan.proofs.Accepted.{text_read, read_text_law}
use Rattle.plan_tables.specs.declared.PlanRecord.{PlanRecord}
use Rattle.plan_tables.specs.Layout.{Tables, vcpu_width, mutex_width, open_width, task_width, over, filled, record_of}
use Rattle.plan_tables.specs.Given.{Gives, Given, plan_in, is_given}
use Rattle.plan_tables.specs.FlatLaws.{each_of, flat_length, Holds}
use Rattle.plan_tables.proofs.LayoutLaws.{task_wide}
use Rattle.plan_tables.proofs.GivenLaws.{Roomy, roomy_exactly, Kept, gives_kept, valid_few, plan_given, given_plan, given_exactly}
use Rattle.read_answer.specs.Into.{plan_answer, tables_after}
use Rattle.read_answer.specs.Claims.{accepted_with_room, accepted_gives, accepted_given, given_left}
use Rattle.listing_lines.specs.Into.{text_answer, text_after}
use Rattle.listing_lines.specs.IntoLaws.{into_room, into_none}
use Rattle.listing_asked.proofs.AskedLaws as asked
use Rattle.write_asked.specs.Asked.{plan_asked, plan_left, onto, copied}

-- THE THREE ANSWERS
module _ (r : PlanRecord) (t : Tables) (o : List ℕ) where
  -- the plan's bytes
  abbrev bytes : List ℕ
  bytes = text (plan_in r t)

  -- each with what is left in the buffer
  pub data Outcome : Type 0 where
    Whole : Given r t → length bytes ≤ length o → plan_asked r t o ≡ Ok (length bytes) → plan_left r t o ≡ bytes ++ drop (length bytes) o → Outcome
    Short : Given r t → length o < length bytes → plan_asked r t o ≡ Err Room → plan_left r t o ≡ o → Outcome
    Nobody : (Given r t → ⊥) → plan_asked r t o ≡ Err Foreign → plan_left r t o ≡ o → Outcome

  pub outcome : Outcome
  outcome = go (is_given r t) refl (leb (length bytes) (length o)) refl
    where
      into : {a : Result ℕ Refusal} {p : List ℕ} → is_given r t ≡ true → (a ≡ text_answer bytes o) × (p ≡ text_after bytes o) → (plan_asked r t o ≡ a) × (plan_left r t o ≡ p)
      into g h = (sym (asked.given_answer text r t o (sym g) refl h.0), sym (asked.given_left text r t o (sym g) refl h.1))

      go : (b : Bool) → is_given r t ≡ b → (l : Bool) → leb (length bytes) (length o) ≡ l → Outcome
      go true g true l =
          let m = leb-true (length bytes) (length o) l in
          let w = into g (into_room bytes o m (record { count = refl; bytes = refl })) in
          Whole ((given_exactly r t).0 g) m w.0 w.1
      go true g false l =
          let m = leb-false (length bytes) (length o) l in
          let w = into g (into_none bytes o m) in
          Short ((given_exactly r t).0 g) m w.0 w.1
      go false g l e =
          Nobody (λ h. true≢false (sym ((given_exactly r t).1 h) ∙ g)) (sym (asked.foreign_answer text r t o (sym g) refl)) (sym (asked.foreign_left text r t o (sym g) refl))

  -- "9, then 8": 9 exactly where no accepted plan gives the tables, 8 exactly where one does and the bytes do not fit, and else they are written
  pub foreign_exactly : (plan_asked r t o ≡ Err Foreign) ↔ (Given r t → ⊥)
  foreign_exactly = go outcome
    where
      go : Outcome → (plan_asked r t o ≡ Err Foreign) ↔ (Given r t → ⊥)
      go (Whole g l e h) = (λ f. absurd (let z : ◌≡◌ {A = ℕ} 0 1 = cc in omega arith), λ n. absurd (n g))
      go (Short g l e h) = (λ f. absurd (let z : ◌≡◌ {A = ℕ} 0 1 = cc in omega arith), λ n. absurd (n g))
      go (Nobody g e h) = (λ f. g, λ n. e)

  pub room_exactly : (plan_asked r t o ≡ Err Room) ↔ (Given r t × (length o < length bytes))
  room_exactly = go outcome
    where
      go : Outcome → (plan_asked r t o ≡ Err Room) ↔ (Given r t × (length o < length bytes))
      go (Whole g l e h) = (λ f. absurd (let z : ◌≡◌ {A = ℕ} 0 1 = cc in omega arith), λ n. absurd (let k = n.1 in omega arith))
      go (Short g l e h) = (λ f. (g, l), λ n. e)
      go (Nobody g e h) = (λ f. absurd (let z : ◌≡◌ {A = ℕ} 0 1 = cc in omega arith), λ n. absurd (g n.0))

  pub written_exactly : (n : ℕ) → (plan_asked r t o ≡ Ok n) ↔ (Given r t × (length bytes ≤ length o) × (n ≡ length bytes))
  written_exactly n = go outcome
    where
      go : Outcome → (plan_asked r t o ≡ Ok n) ↔ (Given r t × (length bytes ≤ length o) × (n ≡ length bytes))
      go (Whole g l e h) = (λ f. (g, l, cc), λ k. e ∙ ap Ok (sym k.2))
      go (Short g l e h) = (λ f. absurd (let z : ◌≡◌ {A = ℕ} 0 1 = cc in omega arith), λ k. absurd (let m = k.1 in omega arith))
      go (Nobody g e h) = (λ f. absurd (let z : ◌≡◌ {A = ℕ} 0 1 = cc in omega arith), λ k. absurd (g k.0))

  -- "with the buffer untouched"
  pub refused_leaves : (x : Refusal) → plan_asked r t o ≡ Err x → plan_left r t o ≡ o
  refused_leaves x f = go outcome
    where
      go : Outcome → plan_left r t o ≡ o
      go (Whole g l e h) = absurd (let z : ◌≡◌ {A = ℕ} 0 1 = cc in omega arith)
      go (Short g l e h) = h
      go (Nobody g e h) = h

  -- n bytes are the plan's, and behind them the buffer is as it was
  pub written_leaves : (n : ℕ) → plan_asked r t o ≡ Ok n → (take n (plan_left r t o) ≡ bytes) × (drop n (plan_left r t o) ≡ drop n o)
  written_leaves n f = go outcome
    where
      go : Outcome → (take n (plan_left r t o) ≡ bytes) × (drop n (plan_left r t o) ≡ drop n o)
      go (Whole g l e h) =
          let k : length bytes ≡ n = cc in
          (ap (take n) h ∙ take_at bytes (drop (length bytes) o) n k, ap (drop n) h ∙ drop_at bytes (drop (length bytes) o) n k ∙ ap (λ m. drop m o) k)
      go (Short g l e h) = absurd (let z : ◌≡◌ {A = ℕ} 0 1 = cc in omega arith)
      go (Nobody g e h) = absurd (let z : ◌≡◌ {A = ℕ} 0 1 = cc in omega arith)

-- READ BACK: the rows of a plan that tables hold, over those of other tables, are theirs
module _ {A : Type 0} {cells : A → List ℕ} {xs : List A} {n : ℕ} {t : List ℕ} (h : Holds cells xs n t) (w : ℕ) (wide : Each (λ x. length (cells x) ≡ w) xs) where
  held_onto : (u : List ℕ) → over (flat cells xs) u ≡ onto (n * w) t u
  held_onto u =
      let k : length (flat cells xs) ≡ n * w = flat_length cells w xs wide ∙ ap (λ m. m * w) (sym h.count) in
      let f : take (n * w) t ≡ flat cells xs = ap (take (n * w)) h.front ∙ take_at (flat cells xs) (drop (length (flat cells xs)) t) (n * w) k in
      ap (λ m. flat cells xs ++ drop m u) k ∙ ap (λ x. x ++ drop (n * w) u) (sym f)

filled_copied : {p : Plan} {r : PlanRecord} {t : Tables} → Valid p → Gives p r t → (u : Tables) → filled p u ≡ copied r t u
unfolding filled copied
filled_copied {p} {r} {t} v g u =
    let k : Kept p r t = gives_kept g in
    let ks : List Task = tasks_of p.sections in
    λ i.
    record {
      vcpus = held_onto k.vcpus vcpu_width (each_of p.vcpus (λ x. refl)) u.vcpus i;
      mutexes = held_onto k.mutexes mutex_width (each_of p.mutexes (λ x. refl)) u.mutexes i;
      opens = held_onto k.opens open_width (each_of p.opens (λ x. refl)) u.opens i;
      tasks = held_onto k.tasks task_width (each_map ks task_wide (valid_few v)) u.tasks i;
    }

filled_after : (p : Plan) (u : Tables) → Valid p → Roomy (record_of p) u → tables_after (text p) u ≡ filled p u
unfolding tables_after
filled_after p u v m = rw (text_read p v, (roomy_exactly (record_of p) u).1 m)

module _ (r : PlanRecord) (t : Tables) (o : List ℕ) (n : ℕ) (e : plan_asked r t o ≡ Ok n) where
  written_given : is_given r t ≡ true
  written_given = (given_exactly r t).1 ((written_exactly r t o n).0 e).0

  -- "Reading them gives the same tables": into any tables with room for its rows, the same record, these rows, and behind them what was lent
  pub written_reads :
      (u : Tables) → Roomy r u → (plan_answer (take n (plan_left r t o)) u ≡ Ok r) × (tables_after (take n (plan_left r t o)) u ≡ copied r t u)
  written_reads u m =
      let p : Plan = plan_in r t in
      let g = given_plan r t written_given in
      let room : Roomy (record_of p) u = subst (λ q. Roomy q u) g.1.recorded m in
      rw (written_leaves r t o n e).0 (
        (accepted_with_room (text p) u r).1 (p, g.0, refl, room, g.1.recorded),
        filled_after p u g.0 room ∙ filled_copied g.0 g.1 u,
      )

  -- and into the same tables, these as they are
  pub written_back : (plan_answer (take n (plan_left r t o)) t ≡ Ok r) × (tables_after (take n (plan_left r t o)) t ≡ t)
  written_back = rw (written_leaves r t o n e).0 (given_left r t written_given)

-- "an accepted plan read and written comes back byte for byte": into a buffer with room for it, else 8
module _ (s : List ℕ) (t : Tables) (r : PlanRecord) (e : plan_answer s t ≡ Ok r) where
  read_bytes : text (plan_in r (tables_after s t)) ≡ s
  read_bytes =
      let w = accepted_gives s t r e in
      ap text (plan_given w.2 w.3) ∙ sym (read_text_law s w.0 w.1).1

  pub read_written : (o : List ℕ) → (plan_asked r (tables_after s t) o ≡ text_answer s o) × (plan_left r (tables_after s t) o ≡ text_after s o)
  read_written o =
      let g : is_given r (tables_after s t) ≡ true = accepted_given s t r e in (
        sym (asked.given_answer text r (tables_after s t) o (sym g) refl (ap (λ x. text_answer x o) (sym read_bytes))),
        sym (asked.given_left text r (tables_after s t) o (sym g) refl (ap (λ x. text_after x o) (sym read_bytes))),
      )
