-- What the owner of a mutex says, in a valid plan.
use Rattle.std.specs.Prelude.{ℕ, ◌<◌, ◌≡◌, Bool, false, ◌&&◌, List}
use Rattle.std.proofs.Math.Path.{refl}
use Rattle.std.proofs.Common.{sym, ap, ◌∙◌, ⊎_elim}
use Rattle.std.proofs.Math.Bool.{true}
use Rattle.std.proofs.lemmas.Bool.{false≢true}
use native.Mathlib.Omega.{arith}
use borrow.Author.Tests.{eqb-true, eq-eqb}
use Rattle.std.proofs.Math.Dec.{eqb}
use Rattle.laws.specs.BoolLaws.{both_left, both_right, both, is_false, bool_cases}
use Rattle.laws.specs.Sums.{any}
use Rattle.laws.specs.Range.{highest}
use Rattle.laws.specs.RangeLaws.{highest_le, highest_passes, highest_is}
use Rattle.laws.specs.SumLaws.{any_row}
use Rattle.plan.specs.Limits.{max_v}
use Rattle.plan.specs.Plan.{Owner, Global, Local, Mutex, Plan}
use Rattle.plan.specs.Lookup.{is_global, is_local_to, has_mutex, global, local_to}
use Rattle.plan.specs.Valid.{MutexValid, OwnerValid, Valid}
use Rattle.plan.specs.ListLaws.{any_weaker}
use Rattle.figures.specs.System.{System, system}
use Rattle.board_rules.specs.View.{global_owner}
use Rattle.board_rules.specs.Facts.{facts_of}
use Rattle.board_keeps.specs.Fair.{InV}
use Rattle.board_keeps.specs.FairLaws.{fair}
use Rattle.board_viewcells.specs.ViewOf.{owner_of}

-- a mutex that is global or local is declared
pub global_has : (ms : List Mutex) (m : ℕ) → global ms m ≡ true → has_mutex ms m ≡ true
unfolding global has_mutex
global_has ms m = any_weaker ms (λ r. both_left (eqb r.m m) (is_global r.owner))

pub local_has : (ms : List Mutex) (v m : ℕ) → local_to ms v m ≡ true → has_mutex ms m ≡ true
unfolding local_to has_mutex
local_has ms v m = any_weaker ms (λ r. both_left (eqb r.m m) (is_local_to v r.owner))

-- THE OWNER IN ANY SYSTEM

module _ (s : System) (m : ℕ) where
  pub owner_global : global s.mutexes m ≡ true → owner_of s m ≡ global_owner
  unfolding owner_of
  owner_global e = rw e

  pub owner_local : global s.mutexes m ≡ false → owner_of s m ≡ highest max_v (λ v. local_to s.mutexes v m)
  unfolding owner_of
  owner_local e = rw e

  -- an owner that is a VCPU's name: the mutex is local to it
  pub owner_is : (v : ℕ) → InV v → owner_of s m ≡ v → local_to s.mutexes v m ≡ true
  owner_is v i e =
      ⊎_elim (λ q. absurd (omega (arith, owner_global q)))
      (λ q.
      let z : highest max_v (λ w. local_to s.mutexes w m) ≡ v = sym (owner_local q) ∙ e in
      rw z at (highest_passes max_v (λ w. local_to s.mutexes w m) (rw z i.from)))
      (bool_cases (global s.mutexes m))

  -- an owner that is global_owner: the mutex is global
  pub owner_is_global : owner_of s m ≡ global_owner → global s.mutexes m ≡ true
  owner_is_global e =
      ⊎_elim (λ q. q) (λ q. absurd (omega (arith, owner_local q, highest_le max_v (λ w. local_to s.mutexes w m)))) (bool_cases (global s.mutexes m))

  -- a mutex with an owner is declared
  pub owner_has : 0 < owner_of s m → has_mutex s.mutexes m ≡ true
  owner_has g =
      ⊎_elim (global_has s.mutexes m)
      (λ q. local_has s.mutexes _ m (highest_passes max_v (λ w. local_to s.mutexes w m) (rw (owner_local q) at g)))
      (bool_cases (global s.mutexes m))

-- THE OWNER IN A VALID PLAN

module _ (p : Plan) (h : Valid p) where
  -- a mutex is local to a VCPU's name
  pub local_in : (v m : ℕ) → local_to p.mutexes v m ≡ true → InV v
  unfolding local_to
  local_in v m e =
      let r = any_row (λ x. eqb x.m m && is_local_to v x.owner) (MutexValid p.vcpus) p.mutexes e h.mutexes_valid in
      go r.row.owner r.has.owned (both_right (eqb r.row.m m) _ r.passes)
    where
      go : (o : Owner) → OwnerValid p.vcpus o → is_local_to v o ≡ true → InV v
      go Global k q = absurd (false≢true q)
      go (Local w) k q = let z = eqb-true w v q in let i = k.0 in record { from = omega arith; to = omega arith }

  -- the owner of a mutex local to v is v
  pub local_owner : (v m : ℕ) → local_to p.mutexes v m ≡ true → owner_of (system p) m ≡ v
  unfolding facts_of
  local_owner v m e =
      let F = fair p h in
      let i = local_in v m e in
      owner_local (system p) m (F.local_only v m e)
      ∙ highest_is max_v v (λ w. local_to p.mutexes w m) i.from i.to e
      (λ j a b. is_false (local_to p.mutexes j m) (λ q. let z = F.local_one v j m e q in omega arith))

  -- the owner of a declared mutex is not 0
  pub has_owner : (m : ℕ) → has_mutex p.mutexes m ≡ true → 0 < owner_of (system p) m
  unfolding has_mutex global local_to
  has_owner m e =
      let r = any_row (λ x. eqb x.m m) (MutexValid p.vcpus) p.mutexes e h.mutexes_valid in
      go r.row r.passes r.row.owner refl r.has.owned r.shows
    where
      go : (r : Mutex) → eqb r.m m ≡ true → (o : Owner) → r.owner ≡ o → OwnerValid p.vcpus o →
          ((g : Mutex → Bool) → g r ≡ true → any g p.mutexes ≡ true) → 0 < owner_of (system p) m
      go r q Global z k c = omega (arith, owner_global (system p) m (c (λ x. eqb x.m m && is_global x.owner) (both _ _ q (ap is_global z))))
      go r q (Local w) z k c =
          let l = local_owner w m (c (λ x. eqb x.m m && is_local_to w x.owner) (both _ _ q (ap (is_local_to w) z ∙ eq-eqb w w refl))) in
          let i = k.0 in omega arith
