-- A walk over a set of VCPUs, from the lowest up, each of which loses some ticks.
use Rattle.std.specs.Prelude.{ℕ, ◌-◌, ◌<◌, ◌≤◌, ◌≡◌, refl, Bool, true, false, ◌&&◌, ◌||◌, not, List, eqb, length, get_or, set}
use Rattle.std.proofs.Common.{sym, ap, ap₂, subst, ◌∙◌, ⊎_elim, eq-zero-or-pos, arith, eq-eqb, ne_eqb, length-set, get_or-set_same, get_or-set_other}
use Rattle.std.specs.Prelude.{if◌then◌else◌}
use Rattle.laws.specs.BoolLaws.{both, either_left, both_left, miss_right, same_or_not}
use Rattle.laws_picks.specs.Picks.{lowest}
use Rattle.plan.specs.declared.Policy.{Policy}
use Rattle.board_keeps.specs.Fair.{InV}
use Rattle.clock_sets.specs.Sets.{in_set, Without}
use Rattle.clock_sets.specs.SetLaws.{in_none}
use Rattle.clock_rules.specs.Clock.{idles}
use Rattle.clock_marks.specs.Marks.{done_in}
use Rattle.clock_plains.specs.Plains.{loses}
use Rattle.clock_reaches.specs.Stretches.{Idles}
use Rattle.clock_reaches.specs.Bounds.{next_in_law, is_in, still_out, now_out}
use Rattle.clock_spends.specs.Spends.{Lost, lost_own, LostIn}

-- LOSING: each of s₀ that is no longer in s has lost k
pub record Losing (ls : List ℕ) (s₀ k s : ℕ) (ls' : List ℕ) : Type 0 where
  pub is_set : s < 65536
  pub long : length ls' ≡ length ls
  pub within : (w : ℕ) → InV w → in_set s w ≡ true → in_set s₀ w ≡ true
  pub left : (w : ℕ) → InV w → get_or ls' (w - 1) 0 ≡ (if in_set s₀ w && not (in_set s w) then get_or ls (w - 1) 0 - k else get_or ls (w - 1) 0)

pub losing_first : (ls : List ℕ) (s k : ℕ) → s < 65536 → Losing ls s k s ls
losing_first ls s k l = record {
  is_set = l;
  long = refl;
  within = λ w i e. e;
  left = λ w i. ap (λ (t : Bool). if t then get_or ls (w - 1) 0 - k else get_or ls (w - 1) 0) (sym (never (in_set s w)));
}
  where
    never : (a : Bool) → (a && not a) ≡ false
    never true = refl
    never false = refl

module _ {ls : List ℕ} {s₀ k s : ℕ} {ls' : List ℕ} (g : Losing ls s₀ k s ls') where
  pub losing_all : s ≡ 0 → Lost ls s₀ k ls'
  losing_all z = record {
    long = g.long;
    left = λ w i.
        g.left w i ∙ ap (λ (t : Bool). if t then get_or ls (w - 1) 0 - k else get_or ls (w - 1) 0) (ap (λ (t : Bool). in_set s₀ w && not t) (ap (λ x. in_set x w) z ∙ in_none w) ∙ and_true (in_set s₀ w));
  }
    where
      and_true : (a : Bool) → (a && true) ≡ a
      and_true true = refl
      and_true false = refl

  module _ (nz : s ≡ 0 → ⊥) {v : ℕ} (e : v ≡ lowest 16 (in_set s)) where
    -- the lowest has lost nothing yet
    next_left : get_or ls' (v - 1) 0 ≡ get_or ls (v - 1) 0
    next_left =
        g.left v (next_in_law g.is_set nz e)
        ∙ ap (λ (t : Bool). if t then get_or ls (v - 1) 0 - k else get_or ls (v - 1) 0) (miss_right (in_set s₀ v) _ (ap not (is_in g.is_set nz e)))

    pub losing_more : {s' j y : ℕ} → length ls ≡ 16 → Without s v s' → j ≡ v - 1 → y ≡ get_or ls' j 0 - k → Losing ls s₀ k s' (set ls' j y)
    losing_more {s'} {j} {y} long q at f =
        let i = next_in_law g.is_set nz e in
        let l = i.to in
        let m = g.long in
        record {
          is_set = let a = q.within in let z = g.is_set in omega arith;
          long = length-set ls' j y ∙ g.long;
          within = λ w a h. g.within w a (both_left (in_set s w) _ (sym (q.names w a.from a.to) ∙ h));
          left = λ w a.
              ⊎_elim
              (λ z. subst (λ u. get_or (set ls' j y) (u - 1) 0 ≡ (if in_set s₀ u && not (in_set s' u) then get_or ls (u - 1) 0 - k else get_or ls (u - 1) 0)) (sym z)
              (ap (λ u. get_or (set ls' j y) u 0) (sym at) ∙ get_or-set_same ls' j y 0 (let u = i.from in omega arith) ∙ f ∙ ap (λ u. get_or ls' u 0 - k) at ∙ ap (λ u. u - k) next_left
              ∙ ap (λ (t : Bool). if t then get_or ls (v - 1) 0 - k else get_or ls (v - 1) 0) (sym (both (in_set s₀ v) _ (g.within v i (is_in g.is_set nz e)) (ap not (now_out q i))))))
              (λ ne.
              get_or-set_other ls' j (w - 1) y 0 (λ z. ne (let u = i.from in let t = a.from in omega arith)) ∙ g.left w a
              ∙ ap (λ (t : Bool). if in_set s₀ w && not t then get_or ls (w - 1) 0 - k else get_or ls (w - 1) 0) (sym (still_out q a ne)))
              (same_or_not w v);
        }

-- WHO LOSES: those that idle, and v, which was picked and so does not; nobody was where v is 0
module _ {p : Policy} {k : List ℕ} {c j r : ℕ} {ls ls₁ : List ℕ} (h : Idles p k c r) (q : Lost ls r j ls₁) where
  lost_none : {v : ℕ} → v ≡ 0 → LostIn p k c v j ls ls₁
  lost_none {v} z = record {
    long = q.long;
    left = λ T x b f m w i.
        q.left w i
        ∙ ap (λ (t : Bool). if t then get_or ls (w - 1) 0 - j else get_or ls (w - 1) 0)
        (h.are T x b f m w i ∙ ap (λ (t : Bool). t || idles T c b (done_in k) w) (sym (ne_eqb w v (λ y. let u = i.from in omega arith))));
  }

  lost_some : {v : ℕ} → InV v → length ls ≡ 16 → in_set r v ≡ false → LostIn p k c v j ls (set ls₁ (v - 1) (get_or ls₁ (v - 1) 0 - j))
  lost_some {v} i long out = record {
    long = length-set ls₁ (v - 1) _ ∙ q.long;
    left = λ T x b f m w a.
        ⊎_elim
        (λ z. subst (λ u. get_or (set ls₁ (v - 1) (get_or ls₁ (v - 1) 0 - j)) (u - 1) 0 ≡ (if loses T c b (done_in k) v u then get_or ls (u - 1) 0 - j else get_or ls (u - 1) 0)) (sym z)
        (get_or-set_same ls₁ (v - 1) (get_or ls₁ (v - 1) 0 - j) 0 (let e = q.long in let l = i.to in let y = i.from in omega arith)
        ∙ ap (λ u. u - j) (q.left v i ∙ ap (λ (t : Bool). if t then get_or ls (v - 1) 0 - j else get_or ls (v - 1) 0) out)
        ∙ ap (λ (t : Bool). if t then get_or ls (v - 1) 0 - j else get_or ls (v - 1) 0) (sym (either_left (eqb v v) (idles T c b (done_in k) v) (eq-eqb v v refl)))))
        (λ ne.
        get_or-set_other ls₁ (v - 1) (w - 1) (get_or ls₁ (v - 1) 0 - j) 0 (λ z. ne (let u = i.from in let y = a.from in omega arith)) ∙ q.left w a
        ∙ ap (λ (t : Bool). if t then get_or ls (w - 1) 0 - j else get_or ls (w - 1) 0) (h.are T x b f m w a ∙ ap (λ (t : Bool). t || idles T c b (done_in k) w) (sym (ne_eqb w v ne))))
        (same_or_not w v);
  }

  pub lost_all : {v : ℕ} {ls₂ : List ℕ} → v ≤ 16 → length ls ≡ 16 → (0 < v → in_set r v ≡ false) → ls₂ ≡ lost_own ls₁ v j → LostIn p k c v j ls ls₂
  lost_all {v} {ls₂} to long out e =
      ⊎_elim (λ z. subst (λ y. LostIn p k c v j ls y) (sym (e ∙ ap (λ (t : Bool). if t then ls₁ else set ls₁ (v - 1) (get_or ls₁ (v - 1) 0 - j)) (eq-eqb v 0 z))) (lost_none z))
      (λ l. subst (λ y. LostIn p k c v j ls y) (sym (e ∙ ap (λ (t : Bool). if t then ls₁ else set ls₁ (v - 1) (get_or ls₁ (v - 1) 0 - j)) (ne_eqb v 0 (λ z. omega arith))))
      (lost_some (record { from = omega arith; to = to }) long (out l)))
      (eq-zero-or-pos v)

-- THE CODE'S VALUES
pub own_none : (ls : List ℕ) (v j : ℕ) → v ≡ 0 → ls ≡ lost_own ls v j
own_none ls v j z = rw (eq-eqb v 0 z)

pub own_some : (ls : List ℕ) (v j : ℕ) {i y : ℕ} → (v ≡ 0 → ⊥) → i ≡ v - 1 → y ≡ get_or ls i 0 - j → set ls i y ≡ lost_own ls v j
own_some ls v j nz e f = ap₂ (λ a b. set ls a b) e (f ∙ ap (λ a. get_or ls a 0 - j) e) ∙ sym (rw (ne_eqb v 0 nz))
