-- A run, by reads of any size: what was handed over is a front of the file's output, and all of it where the last line is out.
use Rattle.std.specs.Prelude.{◌≡◌, ◌++◌, ◌+◌, ◌-◌, Ok, Err}
use Rattle.laws.specs.Kit.{sym, ap, ◌∙◌, Bool, true, false, List, [], append-nil, append_assoc, ℕ}
use Rattle.laws.specs.Kit.{arith, length, take, drop, take-add}
use Rattle.laws.proofs.Choose.{false_true}
use Rattle.window.specs.declared.Span.{Span}
use Rattle.window.specs.declared.BrokenOff.TheVariants.{Unwritten, Unread, TurnsOver}
use Rattle.window.specs.Step.{Fits, shown, onward, settled_of, grown, Machine, step_at}
use Rattle.window.specs.Run.{ReadIn, came_in, Reaches, begins, steps, reads, Front, WholeOutput, End, RunEnds, whole, unwritten, unread, turns_over}
use Rattle.window.proofs.Showing.{onward_shown, used_fits}
use Rattle.window.proofs.Keeping.{Keeps}

module _ {S : Type 0} (m : Machine S) (line size : ℕ) (keeps : Keeps m line size) where
  -- the text so far, and what is still to be printed of what is shown and whatever follows, are the output
  pub record Holds (s : S) (h : Span) (w file text : List ℕ) : Type 0 where
    pub fits : Fits h (length w)
    pub good : keeps.Good s
    pub same : (v : List ℕ) → (h.last ≡ true → v ≡ []) → text ++ keeps.still s (shown h w ++ v) ≡ m.output (file ++ v)

  -- ---- a step

  module _ (s : S) (h : Span) (w file text : List ℕ) (room : ℕ) (x : Holds s h w file text) where
    -- where it is not the last, it holds on
    pub step_holds : (step_at m s h w room).over ≡ false
        → Holds (step_at m s h w room).stage (onward h (step_at m s h w room).used) w file (text ++ (step_at m s h w room).text)
    step_holds e =
        let k = step_at m s h w room in
        let kept = keeps.steps s (shown h w) h.last room x.good in
        record {
          fits = record { in_order = used_fits h w k.used x.fits kept.inside; inside = x.fits.inside };
          good = kept.good;
          same = λ v l.
              ap (λ (y : List ℕ). text ++ k.text ++ keeps.still k.stage (y ++ v)) (onward_shown h k.used w)
              ∙ append_assoc text k.text (keeps.still k.stage (drop k.used (shown h w) ++ v))
              ∙ ap (λ (y : List ℕ). text ++ y) (kept.goes e v l) ∙ x.same v l;
        }

    -- where it is, the output is out
    pub step_ends : (step_at m s h w room).over ≡ true → WholeOutput m h.last file (text ++ (step_at m s h w room).text)
    step_ends e v l =
        ap (λ (y : List ℕ). text ++ y) ((keeps.steps s (shown h w) h.last room x.good).ends e v l) ∙ x.same v l

  -- ---- a read

  pub read_holds : (s : S) (h : Span) (w file text : List ℕ) (k : ℕ) (after : List ℕ) → Holds s h w file text → ReadIn h w k after
      → Holds s (grown (settled_of h) k) after (file ++ came_in h k after) text
  read_holds s h w file text k after x r =
      let more = came_in h k after in
      let all : h.held - h.from + k - 0 ≡ h.held - h.from + k = omega arith in
      let seen : shown (grown (settled_of h) k) after ≡ shown h w ++ more =
      ap (λ (n : ℕ). take n after) all ∙ take-add (h.held - h.from) k after ∙ ap (λ (y : List ℕ). y ++ more) r.kept in
      record {
        fits = record { in_order = omega arith; inside = r.within };
        good = x.good;
        same = λ v l. ap (λ (y : List ℕ). text ++ keeps.still s (y ++ v)) seen
            ∙ ap (λ (y : List ℕ). text ++ keeps.still s y) (append_assoc (shown h w) more v)
            ∙ x.same (more ++ v) (λ e. absurd (false_true (sym r.goes_on ∙ e)))
            ∙ ap m.output (sym (append_assoc file more v));
      }

  -- ---- all of it

  pub reaches_holds : {room : ℕ} {s : S} {h : Span} {w file text : List ℕ} → Reaches m room s h w file text → Holds s h w file text
  reaches_holds (begins w) =
      record { fits = record { in_order = omega arith; inside = omega arith }; good = keeps.starts; same = λ v l. keeps.all v }
  reaches_holds {room} (steps {s} {h} {w} {file} {text} r d e) = step_holds s h w file text room (reaches_holds r) e
  reaches_holds (reads {s} {h} {w} {file} {text} k after r q) = read_holds s h w file text k after (reaches_holds r) q

  -- whatever the reads brought, what was handed over is a front of the output of the file
  so_far : {room : ℕ} {s : S} {h : Span} {w file text : List ℕ} → Reaches m room s h w file text → Front m h.last file text
  so_far {s = s} {h = h} {w = w} r = λ v l. (keeps.still s (shown h w ++ v), (reaches_holds r).same v l)

  pub ran_front : {room : ℕ} {last : Bool} {file text : List ℕ} {end : End} → RunEnds m room last file text end → Front m last file text
  ran_front {room} (whole {s} {h} {w} {file} {text} r d e) =
      λ v l. ([], append-nil _ ∙ step_ends s h w file text room (reaches_holds r) e v l)
  ran_front (unwritten r d) = so_far r
  ran_front (unread r l f) = so_far r
  ran_front (turns_over r) = so_far r

  -- and all of it where the last line is out
  pub ran_whole : {room : ℕ} {last : Bool} {file text : List ℕ} → RunEnds m room last file text (Ok tt) → WholeOutput m last file text
  ran_whole {room} (whole {s} {h} {w} {file} {text} r d e) = step_ends s h w file text room (reaches_holds r) e

-- and where the file had ended no read has failed: the last line is out, or a write failed, or the turns were over
abbrev is_unread : End → Bool
is_unread (Ok u) = false
is_unread (Err Unwritten) = false
is_unread (Err Unread) = true
is_unread (Err TurnsOver) = false

pub ran_ended : {S : Type 0} {m : Machine S} {room : ℕ} {last : Bool} {file text : List ℕ} {end : End} → RunEnds m room last file text end
    → last ≡ true → end ≡ Err Unread → ⊥
ran_ended (whole r d e) l f = false_true (ap is_unread f)
ran_ended (unwritten r d) l f = false_true (ap is_unread f)
ran_ended (unread r g h) l f = false_true (sym g ∙ l)
ran_ended (turns_over r) l f = false_true (ap is_unread f)
