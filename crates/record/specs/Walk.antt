-- A whole file gone through record by record, with what is counted on the way; and the answer to it, from what the file reads as.
use Rattle.std.specs.Prelude.{◌&&◌, ◌/◌, ◌%◌, None, Some, Ok, Err, Result}
use Rattle.laws.specs.Kit.{List, ℕ, zero, suc, eqb, length, drop}
use Rattle.laws.specs.Choose.{pick}
use Rattle.laws.specs.Count.{count}
use Rattle.packet.specs.declared.Packet.{Packet}
use Rattle.packet.specs.declared.Run.{Run}
use Rattle.packet.specs.Quick.{Ran}
use Rattle.packet.specs.Paper.{closes_at}
use Rattle.packet.specs.Step.{tally_of}
use Rattle.packet.specs.Quick.{takes_of, runs_of}
use Rattle.limits.specs.Paper.{profile_of}
use Rattle.packet.specs.declared.Tally.{Tally}
use Rattle.record.specs.declared.FileNumbers.{FileNumbers}
use Rattle.record.specs.declared.CheckedFile.{CheckedFile}
use Rattle.refusal.specs.Told.{Numbered}
use Rattle.record.specs.Paper.{packet_bytes, packet_at, Ending, done, stopped, Packets, Heading, resolved, File, file, refused, file_in}
use Rattle.record.specs.Step.{stands_in}

-- F11, F14: what a file sets up with, beside its edition
abbrev pub numbers_of : Heading → FileNumbers
numbers_of h = record { profile = profile_of h.kind; parameters = resolved h }

-- F6: a whole file as it is told: what it sets up with, how many packets it has and how many frames close; or its first refusal
abbrev pub Checked : Type 0
Checked = Result CheckedFile Numbered

abbrev pub checked_fine : FileNumbers → ℕ → ℕ → Checked
checked_fine numbers packets closed = Ok (record { numbers = numbers; packets = packets; closed = closed })

abbrev pub checked_refused : ℕ → ℕ → Checked
checked_refused number offset = Err (record { number = number; place = offset })

-- a file is fine with the stream numbers that it sets up with, how many packets it has, and how many frames they close
abbrev pub as_checked : File → Checked
as_checked (file h ps) = checked_fine (numbers_of h) (length ps) (count (closes_at ps) (length ps))
as_checked (refused number offset) = checked_refused number offset

-- F13: with an edition beside it
unfoldable pub checked_of : ℕ → List ℕ → Checked
checked_of edition s = as_checked (file_in edition s)

-- document 01's number, 0 where nothing is refused, and its offset
abbrev pub checked_number : Checked → ℕ
checked_number (Ok r) = 0
checked_number (Err r) = r.number

abbrev pub checked_offset : Checked → ℕ
checked_offset (Ok r) = 0
checked_offset (Err r) = r.place

abbrev pub fine_with : FileNumbers → Tally → Checked
fine_with numbers y = checked_fine numbers y.past.packets y.closed

-- the packets read from here on, and how that ended
abbrev pub finish_by : FileNumbers → Tally → List Packet → Ending → Checked
finish_by numbers y ps done = fine_with numbers (tally_of y ps)
finish_by numbers y ps (stopped number offset) = checked_refused number offset

abbrev pub finish : FileNumbers → Tally → Packets → Checked
finish numbers y r = finish_by numbers y r.accepted r.ending

-- ---- gone through quickly

-- how many packets' records the bytes are, 0 where they are no whole number of them
abbrev pub records_left : List ℕ → ℕ
records_left l = pick (eqb (length l % packet_bytes) 0) (length l / packet_bytes) 0

-- a run over so many of them, broken off where none stands
unfoldable pub ran_in : Run → ℕ → List ℕ → Ran
ran_in r zero l = Some r
ran_in r (suc k) l = pick (stands_in l && takes_of r (packet_at l)) (ran_in (runs_of r (packet_at l)) k (drop packet_bytes l)) None
