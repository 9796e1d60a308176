-- A capture written in the other byte order: the words of its headers turned, the captured bytes as they are.
use Rattle.std.specs.Prelude.{◌++◌, ◌+◌}
use Rattle.laws.specs.Kit.{List, reverse, ℕ, zero, suc, ltb, length, take, drop}
use Rattle.laws.specs.Choose.{pick}
use Rattle.endian.specs.declared.Order.{Order}
use Rattle.endian.specs.declared.Order.TheVariants.{Big, Little}
use Rattle.capture.specs.declared.Format.{Format}
use Rattle.capture.specs.declared.Setting.{Setting}
use Rattle.capture.specs.Paper.{record_bytes, header_bytes, captured_at, frame_at}

abbrev pub other : Order → Order
other Big = Little
other Little = Big

abbrev pub other_order : Format → Format
other_order f = record { order = other f.order; nano = f.nano }

abbrev pub other_setting : Setting → Setting
other_setting p = record { format = other_order p.format; port = p.port; offset = p.offset }

abbrev pub word_at : ℕ → List ℕ → List ℕ
word_at i l = take 4 (drop i l)

-- a record's four words, turned, and what follows
abbrev pub four_turned : List ℕ → List ℕ → List ℕ
four_turned l rest = reverse (word_at 0 l) ++ (reverse (word_at 4 l) ++ (reverse (word_at 8 l) ++ (reverse (word_at 12 l) ++ rest)))

-- so many records of a file in format f; a last scrap stays as it is
unfoldable pub swap_records : ℕ → Format → List ℕ → List ℕ
swap_records zero f l = l
swap_records (suc k) f l =
    pick (ltb (length l) record_bytes) l (four_turned l (frame_at f l ++ swap_records k f (drop (record_bytes + captured_at f l) l)))

-- R12: "the same capture in the other order": the magic and the link type turned, the four words between them as they are, and the records
unfoldable pub swap_file : Format → List ℕ → List ℕ
swap_file f s =
    reverse (word_at 0 s) ++ (take 16 (drop 4 s) ++ (reverse (word_at 20 s) ++ swap_records (length (drop header_bytes s)) f (drop header_bytes s)))
