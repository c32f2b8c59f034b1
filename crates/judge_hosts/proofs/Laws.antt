-- What a lock reaches, from its parts.
use Prim.Native.Nat.{ℕ}
use mathlib.Core.Path.{◌≡◌}
use mathlib.Core.List.{List}
use mathlib.Core.Bool.{Bool, ◌&&◌, ◌||◌}
use Rattle.plan.specs.Limits.{max_v}
use lib.Dec.{eqb}
use lib.ListN.{get_or}
use Rattle.plan.specs.Rules.{within}
use Rattle.judge_coded.specs.Coded.{global, slot, reached_by}

-- what a lock reaches, from its parts
pub reach_told :
    (ps : List ℕ) (g v o m : ℕ) {s x : ℕ} {w : Bool} →
    w ≡ within o 1 max_v → s ≡ slot m g → x ≡ get_or ps s 0 →
    ((w && eqb o v) || (eqb o global && eqb x 1)) ≡ reached_by ps g v o m
reach_told ps g v o m e h n = rw (n, h, e)
