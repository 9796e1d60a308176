-- The table of refusals (N1): the number of each.
use Rattle.std.specs.Prelude.{◌∷◌, ℕ, List, [], Option, Some, None, Result, Ok, Err, get_or}
use Rattle.refusal.specs.declared.UnknownNumber.{UnknownNumber}
use Rattle.refusal.specs.declared.Refusal.{Refusal}
use Rattle.refusal.specs.declared.Refusal.TheVariants.{Rate, Schedule, Class, Height, FramePackets, MaxUdp, Tro, Edition, State, Lengths}
use Rattle.refusal.specs.declared.Refusal.TheVariants.{Marker, Earlier, Late, Packets, Room, Figure, Version, Cut, Kind, Misplaced}
use Rattle.refusal.specs.declared.Refusal.TheVariants.{FileRoom, Header, CutCapture, SubSecond, Offset}

-- N1: the refusal numbers; 17 to 19 and 25 to 29 are not used
abbrev pub number : Refusal → ℕ
number Rate = 1
number Schedule = 2
number Class = 3
number Height = 4
number FramePackets = 5
number MaxUdp = 6
number Tro = 7
number Edition = 8
number State = 9
number Lengths = 10
number Marker = 11
number Earlier = 12
number Late = 13
number Packets = 14
number Room = 15
number Figure = 16
number Version = 20
number Cut = 21
number Kind = 22
number Misplaced = 23
number FileRoom = 24
number Header = 30
number CutCapture = 31
number SubSecond = 32
number Offset = 33

-- N1: the table read backwards: what each number from 0 on names, if anything
abbrev pub table : List (Option Refusal)
table =
    None ∷ Some Rate ∷ Some Schedule ∷ Some Class ∷ Some Height ∷ Some FramePackets ∷ Some MaxUdp ∷ Some Tro ∷
    Some Edition ∷ Some State ∷ Some Lengths ∷ Some Marker ∷ Some Earlier ∷ Some Late ∷ Some Packets ∷ Some Room ∷
    Some Figure ∷ None ∷ None ∷ None ∷ Some Version ∷ Some Cut ∷ Some Kind ∷ Some Misplaced ∷
    Some FileRoom ∷ None ∷ None ∷ None ∷ None ∷ None ∷ Some Header ∷ Some CutCapture ∷
    Some SubSecond ∷ Some Offset ∷ []

-- a number past its end names nothing
abbrev pub named : ℕ → Option Refusal
named n = get_or table n None

-- the refusal that a number names, or the number itself
abbrev pub named_as : ℕ → Option Refusal → Result Refusal UnknownNumber
named_as code (Some r) = Ok r
named_as code None = Err (record { 0 = code })

abbrev pub named_by : ℕ → Result Refusal UnknownNumber
named_by code = named_as code (named code)
