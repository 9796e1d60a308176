-- Set-up, the verdict, the summary and the graph: what each answers, for every input.
use Rattle.std.specs.Prelude.{◌≡◌, ◌&&◌, ◌∷◌, ◌-◌, Option, None, Some, Result, Err, Ok}
use Rattle.laws.specs.Kit.{List, [], ℕ, eqb, ltb, ℤ, pos}
use Rattle.std.specs.Prelude.{Float}
use Rattle.std.specs.Float.{binary64}
use Rattle.std.specs.Float.Ieee.{of_int, div, in_float}
use Rattle.laws.specs.Choose.{pick, or_else}
use Rattle.grain.specs.declared.Spacing.{Spacing}
use Rattle.grain.specs.Paper.{NextRead}
use Rattle.limits.specs.Paper.{profile_refusal}
use Rattle.bucket.specs.Paper.{network_number, network_first, network_last}
use Rattle.frame.specs.declared.Row.{Row}
use Rattle.frame.specs.Paper.{next_read_of, buffer_number, buffer_frame, buffer_place}
use Rattle.timing.specs.declared.StreamNumbers.{StreamNumbers}
use Rattle.timing.specs.declared.Stated.{Stated}
use Rattle.timing.specs.declared.State.{State}
use Rattle.timing.specs.Feed.{Fed}
use Rattle.timing.specs.declared.Verdict.{Verdict}
use Rattle.timing.specs.declared.Graph.{Graph}
use Rattle.timing.specs.Step.{set_up_of, stated_of, stated_refusal, rules_of, fresh_of}
use Rattle.timing.specs.Range.{in_range}

-- N3: the fresh state, or the number
abbrev pub SetUp : Type 0
SetUp = Result State ℕ

-- N3: "A refused set-up returns its number and no state."
unfoldable pub set_up_as : StreamNumbers → SetUp
set_up_as x = pick (eqb (set_up_of x) 0) (Ok (fresh_of x)) (Err (set_up_of x))

-- N3, S12: and of what is stated
unfoldable pub stated_up : Stated → SetUp
stated_up t = pick (eqb (stated_refusal t) 0) (Ok (fresh_of (stated_of t))) (Err (stated_refusal t))

-- V5: "The verdict holds the network answer and the buffer answer."
abbrev pub answers_of : State → Verdict
answers_of s = record { network = s.bucket.network; buffer = s.frames.buffer }

abbrev pub Judged : Type 0
Judged = Result Verdict ℕ

-- X9: a state that a call would refuse has no verdict
unfoldable pub verdict_of : State → Judged
verdict_of s = pick (in_range s) (Ok (answers_of s)) (Err 9)

-- C2: "nine numbers (packets, frames, peak; network 0 pass or 1 burst, first, last; buffer 0 none, 1 pass, 2 under or 3 over, frame, packet
-- or peak; 0 where there is none)"
unfoldable pub summary_with : ℕ → ℕ → ℕ → Verdict → List ℕ
summary_with packets frames peak v =
    packets
    ∷ frames
    ∷ peak
    ∷ network_number v.network
    ∷ network_first v.network
    ∷ network_last v.network
    ∷ buffer_number v.buffer
    ∷ buffer_frame v.buffer
    ∷ buffer_place v.buffer
    ∷ []

-- how many they are
abbrev pub summary_width : ℕ
summary_width = 9

-- of a state: its counts and its peak, and its verdict
abbrev pub summary_of : State → List ℕ
summary_of s = summary_with s.past.packets s.frames.closed s.bucket.peak (answers_of s)

-- V9: "FPT, margin and VL as microseconds, each the grains as a double (nothing lost) divided once by 27000."
unfoldable pub microseconds_of : ℤ → Float
microseconds_of x = div binary64 (of_int binary64 x) (of_int binary64 (pos 27000))

abbrev pub Drawn : Type 0
Drawn = Result Graph ℕ

-- N1, N9: "16 a figure for the graph above 2^53 in size; no doubles are given"
unfoldable pub graph_of : ℤ → ℤ → ℤ → Drawn
graph_of fpt margin latency =
    pick (in_float binary64 fpt)
    (pick (in_float binary64 margin)
    (pick (in_float binary64 latency)
    (Ok (record { fpt = microseconds_of fpt; margin = microseconds_of margin; latency = microseconds_of latency }))
    (Err 16))
    (Err 16))
    (Err 16)

-- its number
abbrev pub graph_number : ℤ → ℤ → ℤ → ℕ
graph_number fpt margin latency = pick (in_float binary64 fpt && (in_float binary64 margin && in_float binary64 latency)) 0 16

-- N14: of a packet at t in a frame whose first packet came at `first`: 12 where it comes before that one, 13 where it comes more than 600 s
-- after it
abbrev pub apart_number : ℕ → ℕ → ℕ
apart_number first t = pick (ltb t first) 12 (pick (ltb 600000000000 (t - first)) 13 0)

-- N14: what set-up refuses comes first
abbrev pub next_number : StreamNumbers → ℕ → ℕ → ℕ
next_number x first t = or_else (set_up_of x) (apart_number first t)

-- the wait, or that no read is left, or the number by which the question is refused
abbrev pub Awaited : Type 0
Awaited = Result (Option Spacing) ℕ

abbrev pub awaited_in : ℕ → ℕ → Awaited
awaited_in numerator denominator = Ok (Some (record { num = numerator; den = denominator }))

abbrev pub none_left : Awaited
none_left = Ok None

-- P20, P21: "a numerator over 25·n grains for gapped and over n for linear, or say that no read is left"
abbrev pub awaited : NextRead → ℕ → Awaited
awaited (Some numerator) den = awaited_in numerator den
awaited None den = none_left

-- V11: how long it is until the next read, for the host's graph
unfoldable pub next_of : StreamNumbers → ℕ → ℕ → Awaited
unfolding next_read_of
next_of x first t =
    pick (eqb (next_number x first t) 0) (awaited (next_read_of (rules_of x).plan first t) (rules_of x).plan.reads.den)
    (Err (next_number x first t))

-- V11, S12: and of what is stated: a kind that chooses no profile is refused first
unfoldable pub stated_next : Stated → ℕ → ℕ → Awaited
unfolding next_of
stated_next s first t =
    pick (eqb (profile_refusal s.kind) 0) (next_of (stated_of s) first t) (Err (profile_refusal s.kind))

-- each row of a list is so
abbrev pub AllRows : (Row → Type 0) → List Row → Type 0
AllRows P [] = Unit
AllRows P (r ∷ rows) = P r × AllRows P rows

-- For each answer that is an enum, document 01's number, 0 where nothing is refused, and its place.
abbrev pub fed_number : Fed → ℕ
fed_number (Ok s) = 0
fed_number (Err r) = r.number

abbrev pub fed_place : Fed → ℕ
fed_place (Ok s) = 0
fed_place (Err r) = r.place

abbrev pub fed_state : Fed → State
fed_state (Ok s) = s
fed_state (Err r) = r.state

abbrev pub set_up_number : SetUp → ℕ
set_up_number (Ok s) = 0
set_up_number (Err number) = number

abbrev pub judged_number : Judged → ℕ
judged_number (Ok v) = 0
judged_number (Err number) = number

abbrev pub drawn_number : Drawn → ℕ
drawn_number (Ok g) = 0
drawn_number (Err number) = number

abbrev pub awaited_number : Awaited → ℕ
awaited_number (Ok w) = 0
awaited_number (Err number) = number

-- V9: the graph takes the row's FPT, margin and VL
abbrev pub Drawable : Row → Type 0
Drawable r = drawn_number (graph_of r.fpt r.margin r.latency) ≡ 0
