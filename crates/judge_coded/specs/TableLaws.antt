-- One more row in a list, and one more number by place, say the same to every lookup.
use Rattle.std.specs.Prelude.{ℕ, ◌+◌, ◌*◌, ◌-◌, ◌≤◌, ◌<◌, ◌≡◌, List, [], ◌∷◌, ◌++◌, Bool, ◌&&◌, ◌||◌, set}
use Rattle.std.proofs.Math.Path.{refl, ap, sym}
use Rattle.std.proofs.Common.{ap₂, ◌∙◌, arith, get_or-set_same, get_or-set_other}
use Rattle.std.proofs.Math.Bool.{true, false, or-false}
use Rattle.std.proofs.Math.Dec.{eqb, leb}
use Rattle.std.proofs.Math.ListN.{length, get_or, length-set}
use borrow.Author.Tests.{eqb-true, eqb-false, eq-eqb, ne_eqb, le-leb, lt-ltb}
use Rattle.laws.specs.BoolLaws.{both, both_left, both_right, either_right, miss_left, miss_right}
use Rattle.laws.specs.Sums.{any}
use Rattle.laws.specs.SumLaws.{any_append}
use Rattle.plan.specs.Limits.{max_v, max_guest, max_m}
use Rattle.plan.specs.Plan.{Vcpu, Owner, Mutex, Open}
use Rattle.plan.specs.Lookup.{has_vcpu, is_vcpu_of, has_guest, is_global, is_local_to, has_mutex, local_to, opened}
use Rattle.plan.specs.Lookup as lookup
use Rattle.plan.specs.Rules.{within}
use Rattle.plan.proofs.RuleLaws.{in_range_law}
use Rattle.plan.specs.ListLaws.{last_append}
use Rattle.judge_coded.specs.Coded.{byte, global, openings, ranged, slot}
use Rattle.judge_coded.specs.Same.{VcpusSame, MutexesSame, OpensSame}

any_one : {A : Type 0} (f : A → Bool) (xs : List A) (x : A) → any f (xs ++ (x ∷ [])) ≡ (any f xs || f x)
unfolding any
any_one f xs x = any_append f xs (x ∷ []) ∙ ap (λ b. any f xs || b) (or-false (f x))

-- a lookup of k in rows is a test of the number at key k: so it stays, where the test of e at j says what the new row says
module _ {A : Type 0} (f : ℕ → A → Bool) (h : ℕ → ℕ → Bool) (key : ℕ → ℕ) where
  table_more :
      (a : List ℕ) (xs : List A) (x : A) (j e : ℕ) → ((k : ℕ) → any (f k) xs ≡ h k (get_or a (key k) 0)) → j < length a →
      ((k : ℕ) → key k ≡ j → (h k (get_or a j 0) || f k x) ≡ h k e) → ((k : ℕ) → (key k ≡ j → ⊥) → f k x ≡ false) →
      (k : ℕ) → any (f k) (xs ++ (x ∷ [])) ≡ h k (get_or (set a j e) (key k) 0)
  table_more a xs x j e told l hit miss k = go (eqb (key k) j) refl
    where
      go : (t : Bool) → eqb (key k) j ≡ t → any (f k) (xs ++ (x ∷ [])) ≡ h k (get_or (set a j e) (key k) 0)
      go true q =
          let r : key k ≡ j = eqb-true (key k) j q in
          any_one (f k) xs x ∙ ap (λ b. b || f k x) (told k) ∙ ap (λ i. h k (get_or a i 0) || f k x) r ∙ hit k r
          ∙ ap (h k) (sym (get_or-set_same a j e 0 l)) ∙ ap (λ i. h k (get_or (set a j e) i 0)) (sym r)
      go false q =
          let n : (key k ≡ j → ⊥) = eqb-false (key k) j q in
          any_one (f k) xs x ∙ ap₂ ◌||◌ (told k) (miss k n) ∙ or-false (h k (get_or a (key k) 0)) ∙ ap (h k) (sym (get_or-set_other a j (key k) e 0 n))

pub byte_small : (x : ℕ) → x < 256 → byte x ≡ x
unfolding byte
byte_small x l = rw (lt-ltb x 256 l)

-- nothing above the last number
above_more :
    (a : List ℕ) (top j e : ℕ) → ((w : ℕ) → top < w → get_or a w 0 ≡ 0) → top < j → (w : ℕ) → j < w → get_or (set a j e) w 0 ≡ 0
above_more a top j e above l w k = get_or-set_other a j w e 0 (λ q. omega arith) ∙ above w (omega arith)

-- one VCPU more
module _ {vs : List Vcpu} {gs hs : List ℕ} {top : ℕ} (s : VcpusSame vs gs hs top) (r : Vcpu) where
  pub vcpus_more :
      1 ≤ r.v → r.v ≤ max_v → 1 ≤ r.guest → r.guest ≤ max_guest → top < r.v →
      VcpusSame (vs ++ (r ∷ [])) (set gs r.v r.guest) (set hs r.guest 1) r.v
  unfolding has_vcpu is_vcpu_of has_guest
  vcpus_more v₁ v₂ g₁ g₂ l =
      let none : get_or gs r.v 0 ≡ 0 = s.above r.v l in
      let room : r.v < length gs = omega (arith, s.long) in
      let space : r.guest < length hs = omega (arith, s.broad) in
      record {
        long = length-set gs r.v r.guest ∙ s.long;
        broad = length-set hs r.guest 1 ∙ s.broad;
        top_is = ap (λ (x : Vcpu). x.v) (last_append _ r vs);
        has =
            table_more (λ v x. eqb x.v v) (λ v e. leb 1 e) (λ v. v) gs vs r r.v r.guest s.has room
            (λ k e. either_right (leb 1 (get_or gs r.v 0)) (eqb r.v k) (eq-eqb r.v k (sym e)) ∙ sym (le-leb 1 r.guest g₁)) (λ k n. ne_eqb r.v k (λ q. n (sym q)));
        of =
            λ g.
            table_more (λ v x. eqb x.v v && eqb x.guest g) (λ v e. leb 1 e && eqb e g) (λ v. v) gs vs r r.v r.guest (s.of g) room
            (λ k e. rw (none, eq-eqb r.v k (sym e), le-leb 1 r.guest g₁)) (λ k n. miss_left _ _ (ne_eqb r.v k (λ q. n (sym q))));
        host =
            table_more (λ g x. eqb x.guest g) (λ g e. eqb e 1) (λ g. g) hs vs r r.guest 1 s.host space
            (λ k e. either_right (eqb (get_or hs r.guest 0) 1) (eqb r.guest k) (eq-eqb r.guest k (sym e))) (λ k n. ne_eqb r.guest k (λ q. n (sym q)));
        above = above_more gs top r.v r.guest s.above l;
      }

-- one mutex more, with e for its owner
module _ {ms : List Mutex} {os : List ℕ} {top : ℕ} (s : MutexesSame ms os top) (m : ℕ) (o : Owner) (e : ℕ) where
  pub mutexes_more :
      m ≤ max_m → top < m → 1 ≤ e → is_global o ≡ eqb e global → ((v : ℕ) → is_local_to v o ≡ (within e 1 max_v && eqb e v)) →
      MutexesSame (ms ++ (record { m = m; owner = o } ∷ [])) (set os m e) m
  unfolding has_mutex lookup.global local_to
  mutexes_more h l p g w =
      let x : Mutex = record { m = m; owner = o } in
      let none : get_or os m 0 ≡ 0 = s.above m l in
      let room : m < length os = omega (arith, s.long) in
      record {
        long = length-set os m e ∙ s.long;
        top_is = ap (λ (y : Mutex). y.m) (last_append _ x ms);
        has =
            table_more (λ n y. eqb y.m n) (λ n d. leb 1 d) (λ n. n) os ms x m e s.has room
            (λ k q. either_right (leb 1 (get_or os m 0)) (eqb m k) (eq-eqb m k (sym q)) ∙ sym (le-leb 1 e p)) (λ k n. ne_eqb m k (λ q. n (sym q)));
        is_global_law =
            table_more (λ n y. eqb y.m n && is_global y.owner) (λ n d. eqb d global) (λ n. n) os ms x m e s.is_global_law room
            (λ k q. rw (none, eq-eqb m k (sym q)) g) (λ k n. miss_left _ _ (ne_eqb m k (λ q. n (sym q))));
        is_local_law =
            λ v.
            table_more (λ n y. eqb y.m n && is_local_to v y.owner) (λ n d. within d 1 max_v && eqb d v) (λ n. n) os ms x m e (s.is_local_law v) room
            (λ k q. rw (none, eq-eqb m k (sym q)) (w v)) (λ k n. miss_left _ _ (ne_eqb m k (λ q. n (sym q))));
        above = above_more os top m e s.above l;
      }

-- a place in range is that of one pair alone
pub slot_in : (m g : ℕ) → ranged m max_m g max_guest ≡ true → slot m g ≡ (m - 1) * max_guest + (g - 1)
unfolding slot
slot_in m g h = rw h

pub slot_out : (m g : ℕ) → ranged m max_m g max_guest ≡ false → slot m g ≡ openings
unfolding slot
slot_out m g h = rw h

pub ranged_in : (x hi y top : ℕ) → ranged x hi y top ≡ true → ((1 ≤ x) × (x ≤ hi)) × ((1 ≤ y) × (y ≤ top))
ranged_in x hi y top h =
    (in_range_law x 1 hi (both_left (within x 1 hi) (within y 1 top) h), in_range_law y 1 top (both_right (within x 1 hi) (within y 1 top) h))

slot_same : (m g k h : ℕ) → ranged m max_m g max_guest ≡ true → slot k h ≡ slot m g → (m ≡ k) × (g ≡ h)
slot_same m g k h l q = go (ranged k max_m h max_guest) refl (q ∙ slot_in m g l) (ranged_in m max_m g max_guest l)
  where
    go :
        (b : Bool) → ranged k max_m h max_guest ≡ b → slot k h ≡ (m - 1) * max_guest + (g - 1) →
        ((1 ≤ m) × (m ≤ max_m)) × ((1 ≤ g) × (g ≤ max_guest)) → (m ≡ k) × (g ≡ h)
    go true x z w =
        let v = ranged_in k max_m h max_guest x in
        let r : (k - 1) * max_guest + (h - 1) ≡ (m - 1) * max_guest + (g - 1) = sym (slot_in k h x) ∙ z in
        (omega arith, omega arith)
    go false x z w = absurd (let r : openings ≡ (m - 1) * max_guest + (g - 1) = sym (slot_out k h x) ∙ z in omega arith)

-- one opening more
module _ {os : List Open} {ps : List ℕ} {a b : ℕ} (s : OpensSame os ps a b) (r : Open) where
  pub opens_more : ranged r.m max_m r.guest max_guest ≡ true → OpensSame (os ++ (r ∷ [])) (set ps (slot r.m r.guest) 1) r.m r.guest
  unfolding opened
  opens_more h =
      let w = ranged_in r.m max_m r.guest max_guest h in
      let room : slot r.m r.guest < length ps = rw (slot_in r.m r.guest h, s.long) (omega arith) in
      record {
        long = length-set ps (slot r.m r.guest) 1 ∙ s.long;
        m_is = ap (λ (y : Open). y.m) (last_append _ r os);
        guest_is = ap (λ (y : Open). y.guest) (last_append _ r os);
        has =
            λ g.
            table_more (λ m y. eqb y.m m && eqb y.guest g) (λ m e. eqb e 1) (λ m. slot m g) ps os r (slot r.m r.guest) 1 (s.has g) room
            (λ m q. let z = slot_same r.m r.guest m g h q in either_right (eqb (get_or ps (slot r.m r.guest) 0) 1) (eqb r.m m && eqb r.guest g) (both (eqb r.m m) (eqb r.guest g) (eq-eqb r.m m z.0) (eq-eqb r.guest g z.1)))
            (λ m n. apart m g n (eqb r.m m) refl (eqb r.guest g) refl);
      }
    where
      apart :
          (m g : ℕ) → (slot m g ≡ slot r.m r.guest → ⊥) → (c : Bool) → eqb r.m m ≡ c → (d : Bool) → eqb r.guest g ≡ d →
          (eqb r.m m && eqb r.guest g) ≡ false
      apart m g n true x true y = absurd (n (sym (ap₂ slot (eqb-true r.m m x) (eqb-true r.guest g y))))
      apart m g n true x false y = miss_right (eqb r.m m) (eqb r.guest g) y
      apart m g n false x d y = miss_left (eqb r.m m) (eqb r.guest g) x
