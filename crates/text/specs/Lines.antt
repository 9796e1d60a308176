-- The lines that document 01 and the requests say the programs print, as bytes; and what it is that a line was put into lent bytes.
use Rattle.std.specs.Prelude.{◌∷◌, ◌++◌, ◌^◌, ◌≤◌, ◌<◌}
use Rattle.laws.specs.Kit.{List, [], ℕ, ℤ, nat_abs, length}
use Rattle.laws.specs.Lay.{Put}
use Rattle.bucket.specs.declared.Network.{Network}
use Rattle.bucket.specs.declared.Network.TheVariants.{Pass as Passes, Burst}
use Rattle.frame.specs.declared.Row.{Row}
use Rattle.frame.specs.declared.Buffer.{Buffer}
use Rattle.frame.specs.declared.Buffer.TheVariants.{None, Pass, Under, Over, Broken}
use Rattle.frame.specs.Step.{numbers_of}
use Rattle.text.specs.Decimal.{codes, digits, signed}

-- the size of each number is below 10^20, as of every number of 64 bits
abbrev pub Sized : List ℤ → Type 0
Sized [] = Unit
Sized (z ∷ zs) = (nat_abs z < 10 ^ 20) × Sized zs

-- a space before each number
unfoldable pub fields : List ℤ → List ℕ
fields [] = []
fields (z ∷ zs) = codes " " ++ signed z ++ fields zs

-- L2: "It prints `frame` and the ten numbers of each row as it closes"; "Printed frame lines [..] grow by" the eleventh
unfoldable pub row_line : Row → List ℕ
row_line row = codes "frame" ++ fields (numbers_of row) ++ codes "\n"

-- a word and two numbers
abbrev pub pair_words : List ℕ → ℕ → ℕ → List ℕ
pair_words word first second = word ++ digits first ++ codes " " ++ digits second

-- L3: "then one last line: packets, frames closed, peak, verdicts (as `network burst 0 4`, `buffer under 0 3`)"
abbrev pub count_words : (packets closed peak : ℕ) → List ℕ
count_words packets closed peak =
    codes "packets " ++ digits packets ++ codes " frames " ++ digits closed ++ codes " peak " ++ digits peak

abbrev pub network_words : Network → List ℕ
network_words Passes = codes "pass"
network_words (Burst run) = pair_words (codes "burst ") run.first run.last

-- L3: "its printed word is `buffer broken FRAME KIND`"
abbrev pub buffer_words : Buffer → List ℕ
buffer_words None = codes "none"
buffer_words Pass = codes "pass"
buffer_words (Under p) = pair_words (codes "under ") p.frame p.place
buffer_words (Over p) = pair_words (codes "over ") p.frame p.place
buffer_words (Broken b) = pair_words (codes "broken ") b.frame b.kind

abbrev pub summary_words : (packets closed peak : ℕ) → Network → Buffer → List ℕ
summary_words packets closed peak network buffer =
    count_words packets closed peak ++ codes " network " ++ network_words network ++ codes " buffer " ++ buffer_words buffer

unfoldable pub summary_line : (packets closed peak : ℕ) → Network → Buffer → List ℕ
summary_line packets closed peak network buffer = summary_words packets closed peak network buffer ++ codes "\n"

-- R17: "the last line goes on with `records R skipped S`"
unfoldable pub capture_line : (packets closed peak : ℕ) → Network → Buffer → (records skipped : ℕ) → List ℕ
capture_line packets closed peak network buffer records skipped =
    summary_words packets closed peak network buffer ++ codes " records " ++ digits records ++ codes " skipped " ++ digits skipped ++ codes "\n"

-- L4: "or, after the rows closed before a refusal, `refused`, number, offset."
unfoldable pub refusal_line : (number offset : ℕ) → List ℕ
refusal_line number offset = pair_words (codes "refused ") number offset ++ codes "\n"

-- ---- a line put into lent bytes

-- the room for a number of a row: a space, a sign and twenty digits
abbrev pub field_room : ℕ
field_room = 22

-- the room for a line: none has more bytes
abbrev pub line_room : ℕ
line_room = 256

-- a part of a line is put, which has at most so many bytes
pub record Part (most : ℕ) (part : List ℕ) (at : ℕ) (before : List ℕ) (then : ℕ) (after : List ℕ) : Type 0 where
  pub put : Put part at before then after
  pub short : length part ≤ most

-- and a whole line
abbrev pub Line : List ℕ → ℕ → List ℕ → ℕ → List ℕ → Type 0
Line line at before then after = Part line_room line at before then after
