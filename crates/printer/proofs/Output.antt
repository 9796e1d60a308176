-- The program's output, call by call: however a file is cut into pieces and whatever room each call has, the lines put together are the
-- output that document 01 gives the file; and it always comes to that. One call is in Carrying, the start of a file in Beginning.
use Rattle.std.specs.Prelude.{◌≡◌, ◌⊎◌, ◌++◌, ◌≤◌, ◌<◌, Ok, Err, Some, None}
use Rattle.laws.specs.Kit.{refl, sym, ap, subst, ◌∙◌, Bool, true, false, List, [], append-nil, ℕ, zero, suc}
use Rattle.laws.specs.Kit.{arith, length, drop, get_or, length-drop}
use Rattle.laws.specs.Choose.{pick}
use Rattle.record.specs.Paper.{head_bytes, Heading, resolved, heading, is_parameters}
use Rattle.record.specs.declared.FileNumbers.{FileNumbers}
use Rattle.record.specs.Walk.{numbers_of}
use Rattle.record.specs.Step.{next_piece, next_more}
use Rattle.record.proofs.InPieces.{last_answers, window_suffices}
use Rattle.text.specs.Lines.{line_room, summary_line, refusal_line}
use Rattle.timing.specs.declared.StreamNumbers.{StreamNumbers}
use Rattle.timing.specs.declared.State.{State}
use Rattle.timing.specs.Step.{rules_of, of_profile, fresh_of}
use Rattle.timing.specs.Answers.{answers_of, verdict_of}
use Rattle.timing.specs.Range.{Sound}
use Rattle.timing.proofs.InRange.{of_sound}
use Rattle.printer.specs.declared.Walk.{Walk}
use Rattle.printer.specs.Step.{Opened, opened_number, opened_offset, begin_of, take_of}
use Rattle.printer.specs.Paper.{sum_line, rest_of, output_of, lines_of, output_by}
use Rattle.printer.specs.Drive.{Stands, rest_from, Shows, Drives, last_call, call, Prints, refused, walked}
use Rattle.printer.proofs.Carrying.{take_carries}
use Rattle.printer.proofs.Inside.{take_inside}
use Rattle.printer.proofs.Progress.{take_stuck, take_moves}
use Rattle.printer.proofs.Beginning.{Tells, begin_tells, Answered, begin_answered}
use Rattle.record.specs.Layout.{head_of}
use Rattle.record.proofs.Versions.{Held, read_alike, first_held, second_held, first_as_second}
use Rattle.limits.specs.declared.Parameters.{Parameters}
use Rattle.limits.specs.Steps.{ParametersHeld}

-- ---- the last line of a measured file: "packets, frames closed, peak, verdicts", the state's own

pub last_line : (s : State) → Sound s → sum_line s
    ≡ summary_line s.past.packets s.frames.closed s.bucket.peak (answers_of s).network (answers_of s).buffer
unfolding verdict_of
last_line s x = rw (of_sound s x)

-- ---- the start of a file: where it is refused, its number and offset are all that is printed, whatever follows

pub start_refused : (w v : List ℕ) (last : Bool) → (last ≡ true → v ≡ []) → 0 < opened_number (begin_of w last)
    → output_of (w ++ v) ≡ refusal_line (opened_number (begin_of w last)) (opened_offset (begin_of w last))
start_refused w v last l = go (begin_of w last) (begin_tells w v last l)
  where
    go : (o : Opened) → Tells w v o → 0 < opened_number o → output_of (w ++ v) ≡ refusal_line (opened_number o) (opened_offset o)
    go (Ok None) t p = absurd (omega arith)
    go (Err r) t p = t
    go (Ok (Some walk)) t p = absurd (omega arith)

-- ---- one call, from a walk that a file leads to

module _ (walk : Walk) (w v : List ℕ) (last : Bool) (room : ℕ) (z : Stands walk) (l : last ≡ true → v ≡ []) where
  -- it leads to such a walk again
  pub take_stands : Stands (take_of walk w last room).walk
  take_stands = (take_carries walk w v last room l z).1

  -- where it ended, it wrote all that was still to be printed
  pub take_ended : (take_of walk w last room).ended ≡ true → (take_of walk w last room).text ≡ rest_from walk (w ++ v)
  take_ended e =
      let k = take_of walk w last room in
      let after = rest_of (rules_of walk.state.numbers) k.walk.state k.walk.at.at (drop k.used w ++ v) in
      sym ((take_carries walk w v last room l z).0 ∙ ap (λ (t : Bool). k.text ++ pick t [] after) e ∙ append-nil k.text)

  -- where it did not, it wrote the front of that, and the rest is still to be printed from the walk that it leads to
  pub take_goes_on : (take_of walk w last room).ended ≡ false
      → (take_of walk w last room).text ++ rest_from (take_of walk w last room).walk (drop (take_of walk w last room).used w ++ v)
      ≡ rest_from walk (w ++ v)
  take_goes_on e =
      let k = take_of walk w last room in
      let c = take_carries walk w v last room l z in
      let after = rest_of (rules_of walk.state.numbers) k.walk.state k.walk.at.at (drop k.used w ++ v) in
      sym (c.0 ∙ ap (λ (t : Bool). k.text ++ pick t [] after) e
      ∙ ap (λ r. k.text ++ rest_of r k.walk.state k.walk.at.at (drop k.used w ++ v)) c.2)

-- ---- all calls

-- however the rest of a file comes and whatever room there is, the texts put together are the lines still to come
pub drives_rest : {walk : Walk} {rest text : List ℕ} → Stands walk → Drives walk rest text → text ≡ rest_from walk rest
drives_rest {walk} z (last_call w v last room s e f) =
    f ∙ take_ended walk w v last room z s.ends e ∙ ap (rest_from walk) (sym s.all)
drives_rest {walk} z (call w v last room more s e f d) =
    let k = take_of walk w last room in
    f ∙ ap (λ (x : List ℕ). k.text ++ x) (drives_rest (take_stands walk w v last room z s.ends) d)
    ∙ take_goes_on walk w v last room z s.ends e ∙ ap (rest_from walk) (sym s.all)

-- ---- the file from its first byte

-- whatever is printed of a file is its output
pub prints_output : {file text : List ℕ} → Prints file text → text ≡ output_of file
prints_output (refused w v last number offset s e f) =
    f ∙ sym (subst (Tells w v) e (begin_tells w v last s.ends)) ∙ ap output_of (sym s.all)
prints_output (walked w v last walk s e d) =
    let t = subst (Tells w v) e (begin_tells w v last s.ends) in
    drives_rest t.0 d ∙ sym t.1 ∙ ap output_of (sym s.all)

-- ---- and it comes to that

-- a call with room for a line ends or takes a record, if its window is the last or has 65,537 bytes
pub moves_last : (walk : Walk) (w : List ℕ) (room : ℕ) → line_room ≤ room → (take_of walk w true room).ended ≡ false
    → 0 < (take_of walk w true room).used
moves_last walk w room h e = take_moves walk w true room h (last_answers walk.at.at w) e

pub moves_full : (walk : Walk) (w : List ℕ) (last : Bool) (room : ℕ) → line_room ≤ room → ((i : ℕ) → get_or w i 0 < 256) → 65537 ≤ length w
    → (take_of walk w last room).ended ≡ false → 0 < (take_of walk w last room).used
moves_full walk w last room h b l e = take_moves walk w last room h (window_suffices walk.at.at w last b l) e

-- a call that does neither had no room for a line or wanted more bytes
pub stuck_why : (walk : Walk) (w : List ℕ) (last : Bool) (room : ℕ) → (take_of walk w last room).ended ≡ false
    → (take_of walk w last room).used ≡ 0 → (room < line_room) ⊎ (next_piece walk.at.at w last ≡ next_more)
stuck_why walk w last room = take_stuck walk w last room

-- so from every walk that a file leads to, calls go through whatever rest of a file there is
driven : (n : ℕ) (walk : Walk) (rest : List ℕ) → length rest < n → Stands walk → Drives walk rest (rest_from walk rest)
driven zero walk rest h z = absurd (omega arith)
driven (suc n) walk rest h z =
    go (take_of walk rest true line_room).ended refl
    (driven n (take_of walk rest true line_room).walk (drop (take_of walk rest true line_room).used rest ++ []))
  where
    whole : Shows rest rest [] true
    whole = record { all = sym (append-nil rest); ends = λ e. refl }

    stands : Stands (take_of walk rest true line_room).walk
    stands = take_stands walk rest [] true line_room z (λ e. refl)

    go : (t : Bool) → (take_of walk rest true line_room).ended ≡ t
        → (length (drop (take_of walk rest true line_room).used rest ++ []) < n → Stands (take_of walk rest true line_room).walk
        → Drives (take_of walk rest true line_room).walk (drop (take_of walk rest true line_room).used rest ++ [])
        (rest_from (take_of walk rest true line_room).walk (drop (take_of walk rest true line_room).used rest ++ [])))
        → Drives walk rest (rest_from walk rest)
    go true e on =
        last_call rest [] true line_room whole e
        (ap (rest_from walk) (sym (append-nil rest)) ∙ sym (take_ended walk rest [] true line_room z (λ f. refl) e))
    go false e on =
        let used = (take_of walk rest true line_room).used in
        let less : length (drop used rest ++ []) < n = rw append-nil (omega (
          arith,
          moves_last walk rest line_room (omega arith) e,
          take_inside walk rest true line_room,
          length-drop used rest,
        )) in
        call rest [] true line_room _ whole e
        (ap (rest_from walk) (sym (append-nil rest)) ∙ sym (take_goes_on walk rest [] true line_room z (λ f. refl) e)) (on less stands)

pub rest_driven : (walk : Walk) (rest : List ℕ) → Stands walk → Drives walk rest (rest_from walk rest)
rest_driven walk rest z = driven (suc (length rest)) walk rest (omega arith) z

-- and every file is printed: with `prints_output`, as its output and as nothing else
pub file_printed : (file : List ℕ) → Prints file (output_of file)
file_printed file = go (begin_of file true) refl (begin_tells file [] true (λ e. refl))
  where
    whole : Shows file file [] true
    whole = record { all = sym (append-nil file); ends = λ e. refl }

    output : output_of file ≡ output_of (file ++ [])
    output = ap output_of (sym (append-nil file))

    go : (a : Opened) → begin_of file true ≡ a → Tells file [] (begin_of file true) → Prints file (output_of file)
    go (Ok None) e t = absurd (subst Answered e (begin_answered file))
    go (Err r) e t = refused file [] true r.number r.place whole e (output ∙ subst (Tells file []) e t)
    go (Ok (Some walk)) e t =
        let u = subst (Tells file []) e t in
        walked file [] true walk whole e
        (subst (Drives walk (drop head_bytes file ++ [])) (sym (output ∙ u.1)) (rest_driven walk (drop head_bytes file ++ []) u.0))

-- F11: two files that set up alike print the same, whatever bytes follow their heads
pub outputs_alike : (h k : Heading) → numbers_of h ≡ numbers_of k → (l : List ℕ) → Held h → Held k
    → output_of (head_of h ++ l) ≡ output_of (head_of k ++ l)
unfolding output_of
outputs_alike h k e l =
    read_alike h k e output_by (λ r. ap (λ (x : FileNumbers). lines_of (rules_of (stream x)) (fresh_of (stream x)) r) e) l
  where
    stream : FileNumbers → StreamNumbers
    stream x = of_profile x.profile x.parameters

-- F11: so a file of version 1 prints what that of version 2 prints whose class 0 is written as 3
pub first_printed : (kind : ℕ) (p : Parameters) (l : List ℕ) → is_parameters kind ≡ true → ParametersHeld p
    → output_of (head_of (heading 1 kind p) ++ l) ≡ output_of (head_of (heading 2 kind (resolved (heading 1 kind p))) ++ l)
first_printed kind p l holds held =
    let q = resolved (heading 1 kind p) in
    outputs_alike (heading 1 kind p) (heading 2 kind q) (first_as_second kind p) l (first_held kind p holds held)
    (second_held kind p holds held)
