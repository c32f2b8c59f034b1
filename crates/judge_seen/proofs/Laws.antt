-- What is seen after a line, at a known kind.
use Prim.Native.Nat.{ℕ}
use mathlib.Core.Path.{◌≡◌}
use mathlib.Core.List.{List}
use lib.ListN.{set}
use Rattle.judge_coded.specs.declared.Seen.{Seen}
use Rattle.judge_coded.specs.Coded.{byte, slot, seen, after_vcpu, after_mutex, after_open}

-- what is seen after a VCPU, a mutex and an opening, from the tables written
pub vcpu_told :
    (q : ℕ) (t : Seen) (v g : ℕ) {gs hs : List ℕ} → gs ≡ set t.guests v (byte g) → hs ≡ set t.hosted g (byte 1) →
    seen q gs v hs t.owners t.mutex t.opens t.shared t.sharer t.guest t.v t.n t.tasks t.locks ≡ after_vcpu q t v g
unfolding after_vcpu byte
vcpu_told q t v g e h = rw (e, h)

pub mutex_told :
    (q : ℕ) (t : Seen) (m o : ℕ) {os : List ℕ} → os ≡ set t.owners m (byte o) →
    seen q t.guests t.vcpu t.hosted os m t.opens t.shared t.sharer t.guest t.v t.n t.tasks t.locks ≡ after_mutex q t m o
unfolding after_mutex
mutex_told q t m o e = rw e

pub open_told :
    (q : ℕ) (t : Seen) (m g : ℕ) {s : ℕ} {ps : List ℕ} → s ≡ slot m g → ps ≡ set t.opens s (byte 1) →
    seen q t.guests t.vcpu t.hosted t.owners t.mutex ps m g t.guest t.v t.n t.tasks t.locks ≡ after_open q t m g
unfolding after_open byte
open_told q t m g e h = rw (h, e)
