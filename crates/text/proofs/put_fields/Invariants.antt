-- After each turn the numbers so far are put, each with a space before it.
use Rattle.std.specs.Prelude.{◌*◌, ◌≡◌}
use Rattle.laws.specs.Kit.{length, take}
use Rattle.text.specs.Lines.{field_room, Part, fields}
use Rattle.frame.specs.Step.{row_width}
use Rattle.text.proofs.put_fields.Given as goal

abbrev pub invariant-loop-number : goal.invariant-loop-number
invariant-loop-number l = record {
  put : Part (field_room * l.number-index) (fields (take l.number-index l.number-items)) l.at l.initial.out l.next l.out;
  kept : length l.out ≡ length l.initial.out;
  all : l.number-items ≡ l.fn.numbers;
  wide : length l.fn.numbers ≡ row_width;
}
