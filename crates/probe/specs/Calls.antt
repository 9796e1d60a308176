-- The C functions over a state in words: the number that comes back, its place, and what the lent slices hold then.
use Rattle.std.specs.Prelude.{◌≡◌, Result, Ok, Err, Some, None}
use Rattle.laws.specs.Kit.{List, ℕ, leb, eqb, ℤ, pos, length, take, replicate, sets}
use Rattle.laws.specs.Choose.{pick, or_else}
use Rattle.refusal.specs.declared.Refused.{Refused}
use Rattle.refusal.specs.Told.{Numbered, numbered}
use Rattle.timing.specs.declared.Stated.{Stated}
use Rattle.timing.specs.declared.State.{State}
use Rattle.timing.specs.Feed.{Fed}
use Rattle.timing.specs.Step.{stated_of, stated_refusal, fresh_of}
use Rattle.timing.specs.Answers.{summary_width, summary_with, summary_of}
use Rattle.timing.specs.Feed.{feed_of}
use Rattle.probe.specs.Words.{state_words, words_of, Held, state_held_by}

-- ---- set-up

-- X8, S12: 22 for a kind that chooses no profile, 1 to 8; then 15 where fewer words are lent than a state is
unfoldable pub words_number : Stated → ℕ → ℕ
words_number x room = or_else (stated_refusal x) (pick (leb state_words room) 0 15)

-- accepted, the fresh state's words in front
unfoldable pub set_up_left : Stated → List ℕ → List ℕ
unfolding words_number words_of
set_up_left x words = pick (eqb (words_number x (length words)) 0) (sets words 0 (words_of (fresh_of (stated_of x)))) words

pub record SetUpGives (x : Stated) (words : List ℕ) (number : ℕ) (after : List ℕ) : Type 0 where
  pub number_is : number ≡ words_number x (length words)
  pub words_are : after ≡ set_up_left x words

-- ---- a call

-- the number, 0 where it is accepted, and the place; the state's words, the rows and the nine numbers, as they are then
pub record CallOutcome : Type 0 where
  pub number : ℕ
  pub place : ℕ
  pub words : List ℕ
  pub rows : List ℤ
  pub out : List ℕ

module _ (words : List ℕ) (rows : List ℤ) (out : List ℕ) where
  -- N11: "A refused call accepts none of its packets, returns the number and the packet's place in the history [..], state and rows
  -- unchanged."
  abbrev pub refused : ℕ → ℕ → CallOutcome
  refused number place = record { number = number; place = place; words = words; rows = rows; out = out }

  abbrev pub accepted : State → List ℤ → CallOutcome
  accepted t after = record { number = 0; place = 0; words = sets words 0 (words_of t); rows = after; out = sets out 0 (summary_of t) }

  -- X8: what `feed` answers from the state s; where it accepts, 15 after all else if fewer than nine numbers are lent for the summary
  abbrev pub by_fed : State → Fed → List ℤ → CallOutcome
  by_fed s (Ok t) after = pick (leb summary_width (length out)) (accepted t after) (refused 15 s.past.packets)
  by_fed s (Err r) after = refused r.number r.place

  module _ (ts ss ms : List ℕ) where
    -- X7, N4: "9 exactly a state [..] with a number outside its range": so words that hold no state are 9 too
    abbrev pub by_held : Held → CallOutcome
    by_held (Some s) = by_fed s (feed_of s rows ts ss ms).answer (feed_of s rows ts ss ms).rows
    by_held None = refused 9 0

    unfoldable pub call_of : CallOutcome
    unfolding state_held_by feed_of words_of summary_with
    call_of = by_held (state_held_by (take state_words words))

-- the lent slices are as they were
abbrev pub Unchanged : List ℕ → List ℤ → List ℕ → CallOutcome → Type 0
Unchanged words rows out told = (told.words ≡ words) × (told.rows ≡ rows) × (told.out ≡ out)

-- a number and the slices' contents are what is told
pub record CallGives (told : CallOutcome) (number : ℕ) (words : List ℕ) (rows : List ℤ) (out : List ℕ) : Type 0 where
  pub number_is : number ≡ told.number
  pub words_are : words ≡ told.words
  pub rows_are : rows ≡ told.rows
  pub out_is : out ≡ told.out

-- a number and a place
abbrev pub answer : ℕ → ℕ → Numbered
answer number place = record { number = number; place = place }

abbrev pub asked : CallOutcome → Numbered
asked told = answer told.number told.place

-- the code's answer, told so: 0 and 0 where nothing is refused
abbrev pub asked_told : {A : Type 0} → Result A Refused → Numbered
asked_told (Ok _) = answer 0 0
asked_told (Err r) = numbered r

-- number and place of a call that lends so many row numbers and so many of the summary; what they are does not matter, so let them be 0
unfoldable pub asked_of : (words ts ss ms : List ℕ) (room space : ℕ) → Numbered
unfolding call_of
asked_of words ts ss ms room space = asked (call_of words (replicate room (pos 0)) (replicate space 0) ts ss ms)
