-- The parts of the last line as the code puts them are the line as the documents have it: they differ in grouping alone.
use Rattle.std.specs.Prelude.{◌≡◌, ◌++◌}
use Rattle.laws.specs.Kit.{List, append_assoc, ℕ}
use Rattle.bucket.specs.declared.Network.{Network}
use Rattle.frame.specs.declared.Buffer.{Buffer}
use Rattle.text.specs.Decimal.{codes, digits}
use Rattle.text.specs.Lines.{count_words, network_words, buffer_words, summary_words, capture_line}

grouped : (a b c d e : List ℕ) → a ++ (b ++ c) ++ (d ++ e) ≡ a ++ b ++ c ++ d ++ e
grouped a b c d e = simp append_assoc

pub summary_grouped : (packets closed peak : ℕ) (network : Network) (buffer : Buffer)
    → count_words packets closed peak ++ (codes " network " ++ network_words network) ++ (codes " buffer " ++ buffer_words buffer)
    ≡ summary_words packets closed peak network buffer
summary_grouped packets closed peak network buffer =
    grouped (count_words packets closed peak) (codes " network ") (network_words network) (codes " buffer ") (buffer_words buffer)

named : (a b c d e f : List ℕ) → a ++ (b ++ c) ++ (d ++ e) ++ f ≡ a ++ b ++ c ++ d ++ e ++ f
named a b c d e f = simp append_assoc

pub capture_grouped : (packets closed peak : ℕ) (network : Network) (buffer : Buffer) (records skipped : ℕ)
    → summary_words packets closed peak network buffer ++ (codes " records " ++ digits records) ++ (codes " skipped " ++ digits skipped)
    ++ codes "\n"
    ≡ capture_line packets closed peak network buffer records skipped
unfolding capture_line
capture_grouped packets closed peak network buffer records skipped =
    named (summary_words packets closed peak network buffer) (codes " records ") (digits records) (codes " skipped ") (digits skipped) (codes "\n")
