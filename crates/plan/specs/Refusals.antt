-- "Numbers that say no": the number of each refusal.
use Rattle.std.specs.Prelude.{ℕ, Bool, true, false, Result, Ok, Err}
pub use Rattle.plan.specs.declared.Refusal.{Refusal}
pub use Rattle.plan.specs.declared.Refusal.TheVariants.{Shape, Number, Range, Order, Missing, Outside, TooMany, Room, Foreign, Unknown, Unlisted, Asleep, Busy, NotHolder, Supply}
pub use Rattle.plan.specs.declared.Complaint.{Complaint}

-- A PLAN'S REFUSAL: number, line and field
abbrev pub complaint : Refusal → ℕ → ℕ → Complaint
complaint r l f = record { number = r; line = l; field = f }

-- 8 is given for no line: line 0, field 0
abbrev pub no_room : Complaint
no_room = complaint Room 0 0

unfoldable pub number_of : Refusal → ℕ
number_of Shape = 1
number_of Number = 2
number_of Range = 3
number_of Order = 4
number_of Missing = 5
number_of Outside = 6
number_of TooMany = 7
number_of Room = 8
number_of Foreign = 9
number_of Unknown = 10
number_of Unlisted = 11
number_of Asleep = 12
number_of Busy = 13
number_of NotHolder = 14
number_of Supply = 15

-- WHAT IS WRONG with a line or an event: nothing, or one refusal
abbrev pub Fault : Type 0
Fault = Result (Unit {0}) Refusal

-- the refusal r, unless the test holds; then what the later tests say
unfoldable pub unless : Bool → Refusal → Fault → Fault
unless true r rest = rest
unless false r rest = Err r

-- `Ok` where the test holds, else the refusal r
abbrev pub ensured : Bool → Refusal → Fault
ensured b r = unless b r (Ok tt)
