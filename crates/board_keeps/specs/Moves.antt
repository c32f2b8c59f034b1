-- How a change of holders and waiters keeps the conditions on them.
use Rattle.std.specs.Prelude.{ℕ, ◌≡◌, true, false}
use Rattle.std.proofs.Common.{sym, ap, subst, ◌∙◌, ⊎_elim, arith}
use Rattle.laws.specs.BoolLaws.{clash, same_or_not}
use Rattle.board_rules.specs.Facts.{Facts}
use Rattle.board_rules.specs.Board.{seat}
use Rattle.board_rules.specs.Names.{seat_one, seat_some, seat_to}
use Rattle.board_keeps.specs.Fair.{Fair, InV, InN, InM, sheet_m}
use Rattle.board_keeps.specs.Locks.{Barred, Holding, Waiting}

-- H' is H at every mutex but m; W' is W at every task but (v, n)
abbrev pub HoldersBut : ℕ → (ℕ → ℕ) → (ℕ → ℕ) → Type 0
HoldersBut m H' H = (k : ℕ) → InM k → (k ≡ m → ⊥) → H' k ≡ H k

abbrev pub WaitsBut : ℕ → ℕ → (ℕ → ℕ → ℕ) → (ℕ → ℕ → ℕ) → Type 0
WaitsBut v n W' W = (x j : ℕ) → InV x → InN j → (seat x j ≡ seat v n → ⊥) → W' x j ≡ W x j

-- who waits in W' waits for the same mutex in W
abbrev pub WaitsFrom : (ℕ → ℕ → ℕ) → (ℕ → ℕ → ℕ) → Type 0
WaitsFrom W' W = (x j : ℕ) → InV x → InN j → (W' x j ≡ 0 → ⊥) → W' x j ≡ W x j

-- where (v, n) waits for none in W'
pub waits_from : {W' W : ℕ → ℕ → ℕ} (v n : ℕ) → InV v → InN n → W' v n ≡ 0 → WaitsBut v n W' W → WaitsFrom W' W
waits_from {W'} {W} v n p q z same x j i l nz =
    ⊎_elim (λ e. absurd (let r = seat_one x j v n i l p q e in nz (ap (λ a. W' a j) r.0 ∙ ap (W' v) r.1 ∙ z))) (λ ne. same x j i l ne) (same_or_not (seat x j) (seat v n))

pub barred_kept : {F : Facts} {H H' : ℕ → ℕ} {v n : ℕ} (r : Barred F H v n) → H' r.by ≡ H r.by → Barred F H' v n
barred_kept r e = record {
  by = r.by;
  by_in = r.by_in;
  is_local_law = r.is_local_law;
  held = λ z. r.held (sym e ∙ z);
  by_other = λ z. r.by_other (sym e ∙ z);
  ceiling = r.ceiling;
}

module _ {F : Facts} {H : ℕ → ℕ} {W : ℕ → ℕ → ℕ} (g : Holding F H W) where
  -- a mutex is freed
  pub release_holding : (H' : ℕ → ℕ) (m : ℕ) → InM m → H' m ≡ 0 → HoldersBut m H' H → Holding F H' W
  release_holding H' m k z same = record {
    seat_in = λ x i. ⊎_elim (λ e. let q = ap H' e ∙ z in omega arith) (λ ne. let q = same x i ne in let r = g.seat_in x i in omega arith) (same_or_not x m);
    held_listed = λ v n x a c i e. g.held_listed v n x a c i (was v n x c i e);
    held_alone = λ v n x y a c i j e q. g.held_alone v n x y a c i j (was v n x c i e) (was v n y c j q);
    holder_idle = λ v n x a c i e. g.holder_idle v n x a c i (was v n x c i e);
    wait_listed = g.wait_listed;
  }
    where
      was : (v n x : ℕ) → InN n → InM x → H' x ≡ seat v n → H x ≡ seat v n
      was v n x c i e = ⊎_elim (λ q. absurd (seat_some v n c (sym e ∙ ap H' q ∙ z))) (λ ne. sym (same x i ne) ∙ e) (same_or_not x m)

  -- a task that neither holds nor waits gets a mutex that it lists
  pub grant_holding : (H' : ℕ → ℕ) (v n m : ℕ) → InV v → InN n → InM m → F.lists v n m ≡ true → W v n ≡ 0 → ((k : ℕ) → InM k → H k ≡ seat v n → ⊥) →
      H' m ≡ seat v n → HoldersBut m H' H → Holding F H' W
  grant_holding H' v n m p q k l idle none new same = record {
    seat_in = λ x i. ⊎_elim (λ e. let z = ap H' e ∙ new in let t = seat_to v n p q in omega arith) (λ ne. let z = same x i ne in let r = g.seat_in x i in omega arith) (same_or_not x m);
    held_listed = λ w j x a c i e.
        ⊎_elim
        (λ z. let r = who w j x a c z e in subst (λ y. F.lists w j y ≡ true) (sym z) (subst (λ y. F.lists w y m ≡ true) r.1 (subst (λ y. F.lists y n m ≡ true) r.0 l)))
        (λ ne. g.held_listed w j x a c i (sym (same x i ne) ∙ e)) (same_or_not x m);
    held_alone = λ w j x y a c i o e z.
        ⊎_elim
        (λ s. ⊎_elim (λ t. t ∙ sym s) (λ t. absurd (none y o (sym (same y o t) ∙ z ∙ sym e ∙ ap H' s ∙ new))) (same_or_not y m))
        (λ s. ⊎_elim (λ t. absurd (none x i (sym (same x i s) ∙ e ∙ sym z ∙ ap H' t ∙ new))) (λ t. g.held_alone w j x y a c i o (sym (same x i s) ∙ e) (sym (same y o t) ∙ z)) (same_or_not y m))
        (same_or_not x m);
    holder_idle = λ w j x a c i e.
        ⊎_elim (λ z. let r = who w j x a c z e in sym (ap (λ y. W y n) r.0 ∙ ap (W w) r.1) ∙ idle) (λ ne. g.holder_idle w j x a c i (sym (same x i ne) ∙ e)) (same_or_not x m);
    wait_listed = g.wait_listed;
  }
    where
      -- who holds m is (v, n)
      who : (w j x : ℕ) → InV w → InN j → x ≡ m → H' x ≡ seat w j → (v ≡ w) × (n ≡ j)
      who w j x a c z e = seat_one v n w j p q a c (sym new ∙ ap H' (sym z) ∙ e)

  -- a task waits no more
  pub clear_holding : (W' : ℕ → ℕ → ℕ) → WaitsFrom W' W → Holding F H W'
  clear_holding W' from = record {
    seat_in = g.seat_in;
    held_listed = g.held_listed;
    held_alone = g.held_alone;
    holder_idle = λ v n m a c i e. none (W' v n) (W v n) (from v n a c) (g.holder_idle v n m a c i e);
    wait_listed = λ v n a c nz. let e = from v n a c nz in subst (λ y. F.lists v n y ≡ true) (sym e) (g.wait_listed v n a c (λ z. nz (e ∙ z)));
  }
    where
      none : (a c : ℕ) → ((a ≡ 0 → ⊥) → a ≡ c) → c ≡ 0 → a ≡ 0
      none a c h e = ⊎_elim (λ z. z) (λ nz. h nz ∙ e) (same_or_not a 0)

  -- a task that holds none waits for a mutex that it lists
  pub await_holding : (W' : ℕ → ℕ → ℕ) (v n m : ℕ) → InV v → InN n → F.lists v n m ≡ true → ((k : ℕ) → InM k → H k ≡ seat v n → ⊥) →
      W' v n ≡ m → WaitsBut v n W' W → Holding F H W'
  await_holding W' v n m p q l none new same = record {
    seat_in = g.seat_in;
    held_listed = g.held_listed;
    held_alone = g.held_alone;
    holder_idle = λ w j x a c i e. same w j a c (λ z. none x i (e ∙ z)) ∙ g.holder_idle w j x a c i e;
    wait_listed = λ w j a c nz.
        ⊎_elim
        (λ z. let r = seat_one v n w j p q a c (sym z) in
        subst (λ y. F.lists w y (W' w y) ≡ true) r.1 (subst (λ y. F.lists y n (W' y n) ≡ true) r.0 (subst (λ y. F.lists v n y ≡ true) (sym new) l)))
        (λ ne. let e = same w j a c ne in subst (λ y. F.lists w j y ≡ true) (sym e) (g.wait_listed w j a c (λ z. nz (e ∙ z))))
        (same_or_not (seat w j) (seat v n));
  }

module _ {F : Facts} {H : ℕ → ℕ} {W : ℕ → ℕ → ℕ} (f : Fair F) (g : Holding F H W) (r : Waiting F H W) where
  -- the mutex that a task waits for is in range
  awaited_in : (x j : ℕ) → InV x → InN j → (W x j ≡ 0 → ⊥) → InM (W x j)
  awaited_in x j i l nz = sheet_m f x j (W x j) (g.wait_listed x j i l nz)

  -- a free mutex is taken
  pub grant_waiting : (H' : ℕ → ℕ) (m : ℕ) → H m ≡ 0 → (H' m ≡ 0 → ⊥) → HoldersBut m H' H → Waiting F H' W
  grant_waiting H' m z new same = record {
    for_global = λ x j i l nz e q.
        ⊎_elim (λ t. new (ap H' (sym t) ∙ q)) (λ ne. r.for_global x j i l nz e (sym (same (W x j) (awaited_in x j i l nz) ne) ∙ q)) (same_or_not (W x j) m);
    for_local = λ x j i l nz e.
        let c = r.for_local x j i l nz e in barred_kept c (same c.by c.by_in (λ t. c.held (ap H t ∙ z)));
  }

  -- one task more waits, for a held global mutex or failing the local test
  pub await_waiting : (W' : ℕ → ℕ → ℕ) (v n m : ℕ) → InV v → InN n → W' v n ≡ m → WaitsBut v n W' W →
      (F.global m ≡ true → H m ≡ 0 → ⊥) → (F.global m ≡ false → Barred F H v n) → Waiting F H W'
  await_waiting W' v n m p q new same is_held_lem fails = record {
    for_global = λ x j i l nz e z.
        ⊎_elim
        (λ t. let u = at_new x j i l t in is_held_lem (ap F.global (sym u) ∙ e) (ap H (sym u) ∙ z))
        (λ ne. let u = same x j i l ne in r.for_global x j i l (λ y. nz (u ∙ y)) (ap F.global (sym u) ∙ e) (ap H (sym u) ∙ z))
        (same_or_not (seat x j) (seat v n));
    for_local = λ x j i l nz e.
        ⊎_elim
        (λ t. let u = at_new x j i l t in let w = seat_one v n x j p q i l (sym t) in
        subst (λ y. Barred F H x y) w.1 (subst (λ y. Barred F H y n) w.0 (fails (ap F.global (sym u) ∙ e))))
        (λ ne. let u = same x j i l ne in r.for_local x j i l (λ y. nz (u ∙ y)) (ap F.global (sym u) ∙ e))
        (same_or_not (seat x j) (seat v n));
  }
    where
      at_new : (x j : ℕ) → InV x → InN j → seat x j ≡ seat v n → W' x j ≡ m
      at_new x j i l t = let w = seat_one x j v n i l p q t in ap (λ y. W' y j) w.0 ∙ ap (W' v) w.1 ∙ new

  -- a global mutex changes hands: whoever still waits for it finds it held
  pub global_waiting : (H' : ℕ → ℕ) (W' : ℕ → ℕ → ℕ) (m : ℕ) → F.global m ≡ true → HoldersBut m H' H → WaitsFrom W' W →
      ((x j : ℕ) → InV x → InN j → W x j ≡ m → H' m ≡ 0 → ⊥) → Waiting F H' W'
  global_waiting H' W' m gl same from taken = record {
    for_global = λ x j i l nz e q.
        let u = from x j i l nz in
        ⊎_elim
        (λ t. taken x j i l (sym u ∙ t) (ap H' (sym t) ∙ q))
        (λ ne. r.for_global x j i l (λ y. nz (u ∙ y)) (ap F.global (sym u) ∙ e)
        (ap H (sym u) ∙ sym (same (W' x j) (subst InM (sym u) (awaited_in x j i l (λ y. nz (u ∙ y)))) ne) ∙ q))
        (same_or_not (W' x j) m);
    for_local = λ x j i l nz e.
        let u = from x j i l nz in
        let c = r.for_local x j i l (λ y. nz (u ∙ y)) (ap F.global (sym u) ∙ e) in
        barred_kept c (same c.by c.by_in (λ t. clash (ap F.global t ∙ gl) (f.local_only x c.by c.is_local_law)));
  }

  -- local mutexes of v change hands: whoever of v still waits for one fails the test
  pub local_waiting : (H' : ℕ → ℕ) (W' : ℕ → ℕ → ℕ) (v : ℕ) → ((k : ℕ) → InM k → (F.local_to v k ≡ true → ⊥) → H' k ≡ H k) → WaitsFrom W' W →
      ((j : ℕ) → InN j → (W' v j ≡ 0 → ⊥) → F.local_to v (W v j) ≡ true → Barred F H' v j) → Waiting F H' W'
  local_waiting H' W' v same from fails = record {
    for_global = λ x j i l nz e q.
        let u = from x j i l nz in
        let e2 = ap F.global (sym u) ∙ e in
        r.for_global x j i l (λ y. nz (u ∙ y)) e2
        (sym (same (W x j) (awaited_in x j i l (λ y. nz (u ∙ y))) (λ t. clash e2 (f.local_only v (W x j) t))) ∙ ap H' (sym u) ∙ q);
    for_local = λ x j i l nz e.
        let u = from x j i l nz in
        let some : W x j ≡ 0 → ⊥ = λ y. nz (u ∙ y) in
        let e2 = ap F.global (sym u) ∙ e in
        let c = r.for_local x j i l some e2 in
        ⊎_elim
        (λ t. subst (λ y. Barred F H' y j) (sym t)
        (fails j l (λ y. nz (ap (λ a. W' a j) t ∙ y)) (subst (λ y. F.local_to y (W y j) ≡ true) t (f.sheet_local x j (W x j) (g.wait_listed x j i l some) e2))))
        (λ ne. barred_kept c (same c.by c.by_in (λ t. ne (f.local_one x v c.by c.is_local_law t))))
        (same_or_not x v);
  }
