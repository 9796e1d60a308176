-- A file driven through calls: pieces of any size, and any room in each call. What the theorem of the whole output speaks of.
use Rattle.std.specs.Prelude.{◌≡◌, ◌++◌, ◌+◌, ◌*◌}
use Rattle.laws.specs.Kit.{Bool, true, false, List, [], ℕ, drop}
use Rattle.record.specs.Paper.{packet_bytes, head_bytes}
use Rattle.text.specs.Lines.{refusal_line}
use Rattle.timing.specs.Step.{rules_of}
use Rattle.timing.specs.Range.{Sound}
use Rattle.printer.specs.declared.Walk.{Walk}
use Rattle.printer.specs.Paper.{rest_of}
use Rattle.printer.specs.Step.{begin_of, take_of, opened_refused, opened_ready}

-- a walk that a file can lead to: a state in range, and an offset that its packets account for
pub record Stands (walk : Walk) : Type 0 where
  pub sound : Sound walk.state
  pub offset : walk.at.at ≡ head_bytes + packet_bytes * walk.state.past.packets

-- what is still to be printed of the rest of a file, from a walk on
abbrev pub rest_from : Walk → List ℕ → List ℕ
rest_from walk l = rest_of (rules_of walk.state.numbers) walk.state walk.at.at l

-- a window and what follows it; nothing follows the last
pub record Shows (rest w v : List ℕ) (last : Bool) : Type 0 where
  pub all : rest ≡ w ++ v
  pub ends : last ≡ true → v ≡ []

-- calls, one after the other, through the rest of a file; `text` is what they write, put together
pub data Drives : Walk → List ℕ → List ℕ → Type 0 where
  last_call : {walk : Walk} {rest text : List ℕ} (w v : List ℕ) (last : Bool) (room : ℕ) → Shows rest w v last
      → (take_of walk w last room).ended ≡ true → text ≡ (take_of walk w last room).text → Drives walk rest text
  call : {walk : Walk} {rest text : List ℕ} (w v : List ℕ) (last : Bool) (room : ℕ) (more : List ℕ) → Shows rest w v last
      → (take_of walk w last room).ended ≡ false → text ≡ (take_of walk w last room).text ++ more
      → Drives (take_of walk w last room).walk (drop (take_of walk w last room).used w ++ v) more → Drives walk rest text

-- a file from its first byte: refused at its start, or driven from behind its head
pub data Prints : List ℕ → List ℕ → Type 0 where
  refused : {file text : List ℕ} (w v : List ℕ) (last : Bool) (number offset : ℕ) → Shows file w v last
      → begin_of w last ≡ opened_refused number offset → text ≡ refusal_line number offset → Prints file text
  walked : {file text : List ℕ} (w v : List ℕ) (last : Bool) (walk : Walk) → Shows file w v last → begin_of w last ≡ opened_ready walk
      → Drives walk (drop head_bytes w ++ v) text → Prints file text
