-- What a line says: its kind, and its numbers from left to right, 0 where there are fewer.
use Rattle.std.specs.Prelude.{ℕ, List, [], Option, Some, None}
use Rattle.plan.specs.declared.Kind.{Kind}
use Rattle.laws.specs.Bytes.{pieces}
use Rattle.plan.specs.Limits.{tab}
use Rattle.plan.specs.Line.{Item, shape, kinds, numbers, nums_of, kind_in}
use Rattle.plan.specs.Rules.{nth}
pub use Rattle.text_lines.specs.declared.Said.{Said}

abbrev pub numbers_in : List (List ℕ) → Option Kind → List ℕ
numbers_in fs None = []
numbers_in fs (Some k) = numbers 1 (shape k) fs

abbrev pub said_as : Option Kind → List ℕ → Said
said_as f ns = record { found = f; a = nth 0 ns; b = nth 1 ns; c = nth 2 ns; d = nth 3 ns; e = nth 4 ns }

unfoldable pub said_of : List ℕ → Said
said_of l = said_as (kind_in kinds (pieces tab l)) (numbers_in (pieces tab l) (kind_in kinds (pieces tab l)))

abbrev pub item_as : Option Kind → ℕ → ℕ → ℕ → ℕ → ℕ → Option Item
item_as None a b c d e = None
item_as (Some k) a b c d e = Some (record { kind = k; nums = nums_of k a b c d e })

-- the item that is said
abbrev pub said_item : Said → Option Item
said_item s = item_as s.found s.a s.b s.c s.d s.e

-- what an item says
abbrev pub item_said : Option Item → Said
item_said None = said_as None []
item_said (Some i) = said_as (Some i.kind) i.nums
