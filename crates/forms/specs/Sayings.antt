-- How many values answers carry.
use Rattle.std.specs.Prelude.{ℕ}
use Rattle.forms.specs.declared.said.Said.{Said}
use Rattle.forms.specs.declared.said.Said.TheVariants as says

abbrev pub values_of : Said → ℕ
values_of says.Unknown = 0
values_of says.Shape = 0
values_of says.ZeroHash = 0
values_of says.Null = 0
values_of says.Full = 1
values_of says.Broken = 0
values_of says.NoRoom = 0
values_of says.Stale = 0
values_of says.Unsound = 0
values_of says.Done = 0
values_of says.New = 0
values_of says.Replaced = 1
values_of says.Revived = 0
values_of says.Found = 1
values_of says.Absent = 0
values_of says.Removed = 1
values_of says.Cleared = 0
values_of says.Number = 1
values_of says.Yes = 0
values_of says.No = 0
values_of says.Pair = 2
values_of says.Taken = 0
values_of says.Put = 0
values_of says.Cell = 3
values_of says.Sound = 0
values_of says.Moved = 0
values_of says.Parts = 0
values_of says.Next = 3
values_of says.AtEnd = 1
values_of says.Occupied = 2
values_of says.Vacant = 1
