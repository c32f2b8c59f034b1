-- A byte string is accepted exactly when it is the text of a valid plan, and it says that plan alone.
use Rattle.std.specs.Prelude.{ℕ, ◌↔◌, true}
use Rattle.std.proofs.Math.Path.{◌≡◌, refl, ap}
use Rattle.std.proofs.Common.{sym, ◌∙◌, arith, eqb-true}
use mathlib.Core.List.{List, [], ◌∷◌}
use Rattle.laws.specs.Bytes.{pieces}
use Rattle.laws.specs.Sums.{Each}
use Rattle.laws.specs.SumLaws.{each_map}
use Rattle.plan.specs.Limits.{lf}
use Rattle.plan.specs.Line.{Item, Kind}
use Rattle.plan.specs.Plan.{Plan}
use Rattle.plan.specs.Declares.{VcpuOf, Reach}
use Rattle.plan.specs.Text.{items_of, text_of, text}
use Rattle.plan.specs.Rules.{Known, start, follows, phase, learn}
use Rattle.plan.specs.Reading.{Judge, Verdict, Faultless, FirstBad, judge, Passes, rules, Accepts, answer, reading_by, reading}
use Rattle.plan.specs.Gathered.{plan_of, items_in}
use Rattle.plan.specs.Valid.{Valid}
use Rattle.plan.specs.KindLaws.{each_kind}
use Rattle.plan.specs.JudgeLaws.{fault_allowed, fault_written, text_accepted, accepted_text}
use Rattle.plan.proofs.PlanLines.{Follow, plan_items, items_plan}
use Rattle.plan.proofs.ValidLaws.{passes_valid, valid_passes}

-- FOR ANY JUDGE, from a state t on
module _ (J : Judge) (t : J.Seen) where
  -- the judge keeps the phase, and allows a line only where it may stand
  pub record Phased (at : J.Seen → ℕ) : Type 0 where
    pub starts : at t ≡ 0
    pub allows : (s : J.Seen) (k : Kind) → J.allowed s k ≡ true → follows (at s) k ≡ true
    pub moves : (s : J.Seen) (i : Item) → at (J.next s i) ≡ phase i.kind
    pub stops : (s : J.Seen) → J.ready s ≡ true → at s ≡ 10

  -- a plan whose lines pass is what its text says
  pub text_read_by : (p : Plan) → Passes J t (items_of p) → reading_by J t (text p) ≡ Accepts p
  unfolding reading_by
  text_read_by p h =
      let r = text_accepted J t (items_of p) h in
      rw (r.0, r.1, plan_items p)

  module _ (at : J.Seen → ℕ) (P : Phased at) where
    passes_follow : (s : J.Seen) (is : List Item) → Passes J s is → Follow (at s) is
    passes_follow s [] h = P.stops s h
    passes_follow s (i ∷ is) h =
        (P.allows s i.kind (fault_allowed J s i h.0), fault_written J s i h.0, rw (P.moves s i) at (passes_follow (J.next s i) is h.1))

    -- and bytes that say a plan are its text, and its lines pass
    pub read_text_by : (s : List ℕ) (p : Plan) → reading_by J t s ≡ Accepts p → Passes J t (items_of p) × (s ≡ text p)
    unfolding reading_by
    read_text_by s p h = go (judge J t 1 (pieces lf s)) refl h
      where
        go : (v : Verdict) → judge J t 1 (pieces lf s) ≡ v → answer v (plan_of (items_in (pieces lf s))) ≡ Accepts p → Passes J t (items_of p) × (s ≡ text p)
        go Faultless e q =
            let is : List Item = items_in (pieces lf s) in
            let r = accepted_text J t s e in
            let z : plan_of is ≡ p = cc in
            let y : items_of p ≡ is = ap items_of (sym z) ∙ items_plan is (rw P.starts at (passes_follow t is r.1)) in
            (rw y r.1, r.0 ∙ ap text_of (sym y))
        go (FirstBad c) e q = absurd (let z : ◌≡◌ {A = ℕ} 0 1 = cc in omega arith)

-- FOR THE RULES, which keep the phase
learn_phase : (q : ℕ) (t : Known) (k : Kind) (ns : List ℕ) → (learn q t k ns).phase ≡ q
unfolding learn
learn_phase q t k ns = each_kind (λ k. (learn q t k ns).phase ≡ q) (search tt depth 20) k

pub rules_phased : Phased rules start (λ t. t.phase)
rules_phased = record {
  starts = refl;
  allows = λ t k h. h;
  moves = λ t i. learn_phase (phase i.kind) t i.kind i.nums;
  stops = λ t h. eqb-true t.phase 10 h;
}

-- a valid plan is what its text says
pub text_read : (p : Plan) → Valid p → reading (text p) ≡ Accepts p
text_read p h = text_read_by rules start p (valid_passes p h)

-- bytes that say a plan are its text, and it is valid
pub read_text_law : (s : List ℕ) (p : Plan) → reading s ≡ Accepts p → Valid p × (s ≡ text p)
read_text_law s p h =
    let r = read_text_by rules start (λ t. t.phase) rules_phased s p h in
    (passes_valid p r.0, r.1)

pub accepted_exactly : (s : List ℕ) (p : Plan) → (reading s ≡ Accepts p) ↔ (Valid p × (s ≡ text p))
accepted_exactly s p = (read_text_law s p, λ h. rw h.1 (text_read p h.0))

-- no two valid plans share a text
pub text_once : (p q : Plan) → Valid p → Valid q → text p ≡ text q → p ≡ q
text_once p q h k e = cc (text_read p h, text_read q k, ap reading e)

-- every task's VCPU is declared and its section's guest's, and every lock's mutex is local to that VCPU or a global one opened to that guest
abbrev pub Addressed : Plan → Type 0
Addressed p =
    Each (λ s. Each (λ k. VcpuOf p.vcpus s.guest k.v × Each (λ l. Reach p.mutexes p.opens s.guest k.v l.m) k.locks) s.tasks) p.sections

pub valid_addressed : (p : Plan) → Valid p → Addressed p
valid_addressed p h =
    each_map p.sections
    (λ s v. each_map s.tasks
    (λ k w. (w.own_vcpu_law, each_map k.locks (λ l x. x.within_reach) w.locks_valid))
    v.tasks_valid)
    h.sections_valid

pub accepted_task : (s : List ℕ) (p : Plan) → reading s ≡ Accepts p → Addressed p
accepted_task s p h = valid_addressed p (read_text_law s p h).0
