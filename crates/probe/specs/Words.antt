-- A state as words, one for each of its numbers in the order of docs/STATE.md, and the state that lent words hold.
use Rattle.std.specs.Prelude.{◌≡◌, ◌&&◌, ◌∷◌, ◌%◌, Option, Some, None}
use Rattle.laws.specs.Kit.{Bool, true, false, List, [], ℕ, eqb, get_or, take}
use Rattle.laws.specs.Choose.{pick}
use Rattle.laws.specs.Every.{values}
use Rattle.bucket.specs.declared.Bucket.{Bucket}
use Rattle.bucket.specs.declared.Network.{Network}
use Rattle.bucket.specs.declared.Network.TheVariants.{Pass, Burst}
use Rattle.bucket.specs.Paper.{network_number, network_first, network_last}
use Rattle.frame.specs.declared.Frame.{Frame}
use Rattle.frame.specs.declared.Frames.{Frames}
use Rattle.frame.specs.declared.Buffer.{Buffer}
use Rattle.frame.specs.declared.Buffer.TheVariants.{None as NoBuffer, Under, Over, Broken, Pass as BufferPass}
use Rattle.frame.specs.Paper.{buffer_number, buffer_frame, buffer_place}
use Rattle.timing.specs.declared.StreamNumbers.{StreamNumbers}
use Rattle.timing.specs.declared.State.{State}
use Rattle.limits.specs.Paper.{profile_of, given}
use Rattle.timing.specs.Step.{stream_with}
use Rattle.timing.specs.Range.{table}

-- ---- the words of a state

-- document 01's three numbers for each of the two answers
abbrev pub verdict_words : State → List ℕ
verdict_words s =
    network_number s.bucket.network
    ∷ network_first s.bucket.network
    ∷ network_last s.bucket.network
    ∷ buffer_number s.frames.buffer
    ∷ buffer_frame s.frames.buffer
    ∷ buffer_place s.frames.buffer
    ∷ []

-- X7: the values of the state's table: a number as itself, a bool as 0 or 1, an answer as its three numbers, a profile as its kind
unfoldable pub words_of : State → List ℕ
words_of s = values (table s)

-- how many they are, for every state: `length_words` in proofs/RoundTrip.antt
abbrev pub state_words : ℕ
state_words = 35

-- ---- words read as a state, whatever they are: what a field has no room for is left out, and a number that no answer has counts
-- as the last one's

abbrev pub network_in : (number first last : ℕ) → Network
network_in number first last = pick (eqb number 0) Pass (Burst (record { first = first; last = last }))

abbrev pub buffer_in : (number frame place : ℕ) → Buffer
buffer_in number frame place =
    pick (eqb number 0) NoBuffer
    (pick (eqb number 1) BufferPass
    (pick (eqb number 2) (Under (record { frame = frame; place = place }))
    (pick (eqb number 3) (Over (record { frame = frame; place = place })) (Broken (record { frame = frame; kind = place })))))

module _ (w : List ℕ) where
  abbrev word : ℕ → ℕ
  word k = get_or w k 0

  abbrev pub numbers_in : StreamNumbers
  numbers_in =
      stream_with (profile_of (word 8 % 256)) (word 7 % 4294967296)
      (given (word 0 % 256) (word 1 % 256) (word 2 % 256) (word 3 % 65536) (word 4 % 4294967296) (word 5 % 65536)
      (word 6 % 4294967296))

  abbrev pub bucket_in : Bucket
  bucket_in = record { level = word 12; start = word 13; peak = word 14; network = network_in (word 15) (word 16) (word 17) }

  abbrev pub open_in : Frame
  open_in = record {
    held = word 22;
    first = word 23;
    stamp = word 24 % 4294967296;
    phase = word 25;
    differs = word 28;
    reads = word 26;
    wait = word 27;
    top = word 29;
    deficit = word 31;
    late = word 30;
  }

  abbrev pub frames_in : Frames
  frames_in = record {
    begun = eqb (word 20) 1;
    closed = word 19;
    marked = word 21;
    current = open_in;
    buffer = buffer_in (word 32) (word 33) (word 34);
  }

  unfoldable pub state_in : State
  state_in = record {
    numbers = numbers_in;
    past = record { packets = word 9; first = word 10; last = word 11 };
    rest = word 18;
    bucket = bucket_in;
    frames = frames_in;
  }

-- ---- the state that words hold

unfoldable pub same : List ℕ → List ℕ → Bool
same [] [] = true
same [] (y ∷ ys) = false
same (x ∷ xs) [] = false
same (x ∷ xs) (y ∷ ys) = eqb x y && same xs ys

-- what lent words hold: a state, or nothing that is one
abbrev pub Held : Type 0
Held = Option State

-- X7: words hold a state exactly where they are the words of the state that they are read as, no more and no fewer
unfoldable pub state_held_by : List ℕ → Held
unfolding words_of state_in same
state_held_by w = pick (same (words_of (state_in w)) w) (Some (state_in w)) None

-- lent words hold a state: the first of them, as many as a state has
abbrev pub Holds : List ℕ → State → Type 0
Holds words s = state_held_by (take state_words words) ≡ Some s

-- or none
abbrev pub HoldNone : List ℕ → Type 0
HoldNone words = state_held_by (take state_words words) ≡ None
