-- The bytes of a word: reading what is left, after the digits so far, gives what reading the whole gives; and so many digits spell less than
-- that power of 10, so that no sum leaves 64 bits.
use Rattle.std.specs.Prelude.{◌≡◌, ◌^◌, ◌<◌}
use Rattle.laws.specs.Kit.{drop}
use Rattle.words.specs.Paper.{number_in}
use Rattle.words.proofs.Reading.{read_on}
use Rattle.words.proofs.number_in.Given as goal

abbrev pub invariant-loop-c : goal.invariant-loop-c
invariant-loop-c l = record {
  rest : read_on l.value (drop l.c-index l.word) ≡ number_in l.word;
  below : l.value < 10 ^ l.c-index;
}
