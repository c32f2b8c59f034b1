-- THE JUDGE IN CODE AGREES WITH THE RULES: on the fault of every item, on every byte string, and on every list of items.
use Rattle.std.specs.Prelude.{ℕ, zero, suc, ◌+◌, ◌≡◌, refl, List, ◌&&◌, ◌↔◌, eqb, leb, get_or, replicate, Ok}
use Rattle.std.proofs.Common.{ap, ap₂, sym}
use Rattle.laws.specs.Sums.{any}
use Rattle.plan.specs.Limits.{max_v, max_guest, max_m}
use Rattle.plan.specs.declared.Refusal.{Refusal}
use Rattle.plan.specs.declared.Refusal.TheVariants.{Shape, Number}
use Rattle.plan.specs.Refusals.{unless}
use Rattle.plan.specs.Line.{Item, head_or, shape, written}
use Rattle.plan.specs.Lookup.{has_vcpu, is_vcpu_of, has_guest, has_mutex, local_to, opened}
use Rattle.plan.specs.Lookup as lookup
use Rattle.plan.specs.Rules.{Known, phase, within, follows}
use Rattle.plan.specs.Rules as known
use Rattle.plan.specs.Fields.{field_of}
use Rattle.plan.specs.Reading.{rules, fault, Passes, reading_by, reading}
use Rattle.judge_coded.specs.Coded.{Seen, coded, start, global, openings, slot}
use Rattle.judge_coded.specs.Same.{Same}
use Rattle.judge_coded.specs.SameLaws.{same_rule, same_learn}
use Rattle.plan.specs.Simulated as simulated
use Rattle.plan.specs.JudgeLaws.{clear_rest}

zeros : (n i : ℕ) → ◌≡◌ {A = ℕ} (get_or (replicate n 0) i 0) 0
zeros zero i = refl
zeros (suc n) zero = refl
zeros (suc n) (suc i) = zeros n i

pub same_start : Same known.start start
unfolding has_vcpu is_vcpu_of has_guest has_mutex lookup.global local_to opened any
same_start =
    record {
      phase_is = refl;
      vcpus =
          record {
            long = refl;
            broad = refl;
            top_is = refl;
            has = λ v. ap (λ e. leb 1 e) (sym (zeros (max_v + 1) v));
            of = λ g v. ap (λ e. leb 1 e && eqb e g) (sym (zeros (max_v + 1) v));
            host = λ g. ap (λ e. eqb e 1) (sym (zeros (max_guest + 1) g));
            above = λ w l. zeros (max_v + 1) w;
          };
      mutexes =
          record {
            long = refl;
            top_is = refl;
            has = λ m. ap (λ e. leb 1 e) (sym (zeros (max_m + 1) m));
            is_global_law = λ m. ap (λ e. eqb e global) (sym (zeros (max_m + 1) m));
            is_local_law = λ v m. ap (λ e. within e 1 max_v && eqb e v) (sym (zeros (max_m + 1) m));
            above = λ w l. zeros (max_m + 1) w;
          };
      opens = record { long = refl; m_is = refl; guest_is = refl; has = λ g m. ap (λ e. eqb e 1) (sym (zeros openings (slot m g))) };
      guest_is = refl;
      v_is = refl;
      n_is = refl;
      tasks_is = refl;
      locks_is = refl;
    }

pub same_fault : (t : Known) (s : Seen) → Same t s → (i : Item) → fault rules t i ≡ fault coded s i
unfolding fault
same_fault t s r i =
    ap₂ (λ a f. unless a Shape (unless (written (shape i.kind) i.nums) Number f)) (ap (λ q. follows q i.kind) r.phase_is)
    (same_rule r i.kind i.nums)

pub same_field : (t : Known) (s : Seen) → Same t s → (i : Item) (x : Refusal) → rules.field t i x ≡ coded.field s i x
same_field t s r i x = ap (λ g. field_of g i.kind i.nums x) (r.mutexes.is_global_law (head_or i.nums))

pub same_next : (t : Known) (s : Seen) → Same t s → (i : Item) → fault rules t i ≡ Ok tt → Same (rules.next t i) (coded.next s i)
unfolding fault
same_next t s r i h =
    same_learn (phase i.kind) r i.kind i.nums (clear_rest _ _ _ (clear_rest _ _ _ h))

pub same_ready : (t : Known) (s : Seen) → Same t s → rules.ready t ≡ coded.ready s
same_ready t s r = ap (λ q. eqb q 10) r.phase_is

alike : simulated.Alike coded rules (λ s t. Same t s)
alike =
    record {
      fields = λ s t r i x. sym (same_field t s r i x);
      faults = λ s t r i. sym (same_fault t s r i);
      stops = λ s t r. sym (same_ready t s r);
      stays = λ s t r i h. same_next t s r i h;
    }

-- the reading by the judge in code is the reading
pub same_reading : (b : List ℕ) → reading_by coded start b ≡ reading b
same_reading b = simulated.same_reading coded rules (λ s t. Same t s) alike start known.start same_start b

-- items pass the judge in code exactly when they pass the rules
pub same_passes : (is : List Item) → Passes coded start is ↔ Passes rules known.start is
same_passes is = simulated.same_passes coded rules (λ s t. Same t s) alike start known.start same_start is
