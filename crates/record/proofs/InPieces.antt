-- A file in pieces reads as the whole, on one page: a piece's answer is the whole file's or More; More comes only where the next bytes
-- decide, and never of a last window or one of 65,537 bytes (65,538 with the version byte); and whatever the pieces, the answers are the
-- whole file's. The work on one window is in Window; the pieces go by the steps still allowed.
use Rattle.std.specs.Prelude.{◌≡◌, ◌∷◌, ◌++◌, Ok, Err, Some, None}
use Rattle.laws.specs.Kit.{refl, sym, ap, subst, ◌∙◌, Bool, true, false, List, [], append-nil, append_assoc, flatten, ℕ}
use Rattle.std.specs.Prelude.{◌+◌, ◌≤◌, ◌<◌}
use Rattle.laws.specs.Kit.{zero, suc, arith, length, drop, get_or, length-append, length-drop, drop-append-le}
use Rattle.laws.specs.Choose.{pick}
use Rattle.endian.proofs.Width.{bytes_all}
use Rattle.record.specs.Step.{HeadRead, head_ready}
use Rattle.record.specs.Step.{NextRead}
use Rattle.record.specs.Step.{head_piece, head_read, next_piece, next_read}
use Rattle.record.specs.Pieces.{reading_goes_on, next_at, taken, wants_more, head_waits, heard, answers, all_answers, in_pieces, all_in_pieces}
use Rattle.record.proofs.Saying.{SaysHead, head_says}
use Rattle.record.proofs.Window.{next_same, head_same, next_full, head_full, read_within, head_answers}
use Rattle.record.specs.Paper.{head_bytes}

-- the answer to the last window is the whole file's by definition, and never More
pub last_answers : (at : ℕ) (w : List ℕ) → wants_more (next_piece at w true) ≡ false
last_answers at w = (read_within at w).0

pub last_head : (w : List ℕ) → head_waits (head_piece w true) ≡ false
last_head = head_answers

-- the answer to any other window is More, or the whole file's, whatever bytes follow
pub piece_answers : (at : ℕ) (w rest : List ℕ) → wants_more (next_piece at w false) ≡ false → next_piece at w false ≡ next_read at (w ++ rest)
piece_answers at w rest m = sym (next_same at w rest true m)

pub piece_head : (w rest : List ℕ) → head_waits (head_piece w false) ≡ false → head_piece w false ≡ head_read (w ++ rest)
piece_head w rest m = sym (head_same w rest true m)

-- a window of 65,537 bytes is never answered More, nor a head of one byte more
pub window_suffices : (at : ℕ) (w : List ℕ) (last : Bool) → ((i : ℕ) → get_or w i 0 < 256) → 65537 ≤ length w
    → wants_more (next_piece at w last) ≡ false
window_suffices at w last b h = next_full at w last (bytes_all w b) h

pub head_suffices : (w : List ℕ) (last : Bool) → ((i : ℕ) → get_or w i 0 < 256) → 65538 ≤ length w → head_waits (head_piece w last) ≡ false
head_suffices w last b h = head_full w last (bytes_all w b) h

-- what the window alone answers is what it answers with nothing after it
pub piece_alone : (at : ℕ) (w : List ℕ) (last : Bool) → wants_more (next_piece at w last) ≡ false → next_piece at w last ≡ next_read at w
piece_alone at w true m = refl
piece_alone at w false m = piece_answers at w [] m ∙ ap (next_read at) (append-nil w)

pub head_alone : (w : List ℕ) (last : Bool) → head_waits (head_piece w last) ≡ false → head_piece w last ≡ head_read w
head_alone w true m = refl
head_alone w false m = piece_head w [] m ∙ ap head_read (append-nil w)

-- ---- steps, after the head

continue : (i : NextRead) (at j : ℕ) (held rest : List ℕ) (more : List NextRead) → i ≡ next_read at (held ++ rest) → taken i ≤ length held
    → (reading_goes_on i ≡ true → more ≡ answers j (next_at i) (drop (taken i) held ++ rest))
    → i ∷ pick (reading_goes_on i) more [] ≡ answers (suc j) at (held ++ rest)
unfolding answers
continue i at j held rest more e t f = rw (← e) (ap (λ l. i ∷ l) (go (reading_goes_on i) refl))
  where
    go : (b : Bool) → reading_goes_on i ≡ b → pick b more [] ≡ pick b (answers j (next_at i) (drop (taken i) (held ++ rest))) []
    go true g = f g ∙ ap (answers j (next_at i)) (sym (drop-append-le (taken i) held rest t))
    go false g = refl

module _ (k at : ℕ) (held p : List ℕ) (pieces : List (List ℕ)) where
  step_more : wants_more (next_piece at held false) ≡ true → in_pieces (suc k) at held (p ∷ pieces) ≡ in_pieces k at (held ++ p) pieces
  unfolding in_pieces
  step_more m = rw m

  step_item : (i : NextRead) → next_piece at held false ≡ i → wants_more i ≡ false
      → in_pieces (suc k) at held (p ∷ pieces) ≡ i ∷ pick (reading_goes_on i) (in_pieces k (next_at i) (drop (taken i) held) (p ∷ pieces)) []
  unfolding in_pieces
  step_item i e m = rw (e, m)

step_last : (k at : ℕ) (held : List ℕ) (i : NextRead) → next_piece at held true ≡ i
    → in_pieces (suc k) at held [] ≡ i ∷ pick (reading_goes_on i) (in_pieces k (next_at i) (drop (taken i) held) []) []
unfolding in_pieces
step_last k at held i e = rw e

-- what is left after an answer is shorter
shorter : (i : NextRead) (held rest : List ℕ) → taken i ≤ length held → 0 < taken i
    → length (drop (taken i) held ++ rest) < length (held ++ rest)
shorter i held rest t p =
    omega (arith, length-append (drop (taken i) held) rest, length-append held rest, length-drop (taken i) held)

joined : (k j at : ℕ) (held : List ℕ) (pieces : List (List ℕ)) → length (held ++ flatten pieces) + length pieces < k
    → length (held ++ flatten pieces) < j → in_pieces k at held pieces ≡ answers j at (held ++ flatten pieces)
unfolding flatten
joined zero j at held pieces a b = absurd (omega arith)
joined (suc k) zero at held pieces a b = absurd (omega arith)
joined (suc k) (suc j) at held [] a b =
    let i = next_read at held in
    let w = read_within at held in
    step_last k at held i refl
    ∙ continue i at j held [] _ (ap (next_read at) (sym (append-nil held))) w.1
    (λ g. let s = shorter i held [] w.1 (w.2 g) in joined k j (next_at i) (drop (taken i) held) [] (omega arith) (omega arith))
joined (suc k) (suc j) at held (p ∷ pieces) a b =
    go (wants_more (next_piece at held false)) refl
    (λ m n. joined k (suc j) at (held ++ p) pieces m n)
    (λ m n. joined k j (next_at (next_read at held)) (drop (taken (next_read at held)) held) (p ∷ pieces) m n)
  where
    i : NextRead
    i = next_read at held

    rest : List ℕ
    rest = p ++ flatten pieces

    go : (t : Bool) → wants_more (next_piece at held false) ≡ t
        → (length ((held ++ p) ++ flatten pieces) + length pieces < k → length ((held ++ p) ++ flatten pieces) < suc j
        → in_pieces k at (held ++ p) pieces ≡ answers (suc j) at ((held ++ p) ++ flatten pieces))
        → (length (drop (taken i) held ++ rest) + suc (length pieces) < k → length (drop (taken i) held ++ rest) < j
        → in_pieces k (next_at i) (drop (taken i) held) (p ∷ pieces) ≡ answers j (next_at i) (drop (taken i) held ++ rest))
        → in_pieces (suc k) at held (p ∷ pieces) ≡ answers (suc j) at (held ++ rest)
    go true m longer next =
        let same = append_assoc held p (flatten pieces) in
        step_more k at held p pieces m ∙ longer (rw same (omega arith)) (rw same (omega arith)) ∙ ap (answers (suc j) at) same
    go false m longer next =
        let w = read_within at held in
        let alone = piece_alone at held false m in
        step_item k at held p pieces i alone w.0
        ∙ continue i at j held rest (in_pieces k (next_at i) (drop (taken i) held) (p ∷ pieces))
        (sym alone ∙ piece_answers at held rest m) w.1
        (λ g. let s = shorter i held rest w.1 (w.2 g) in next (omega arith) (omega arith))

-- ---- from the first byte

-- what follows a head that the held bytes show
heard_on : (held : List ℕ) (y : HeadRead) (f g : ℕ → List NextRead) → SaysHead held y → (head_bytes ≤ length held → (at : ℕ) → f at ≡ g at)
    → heard y f ≡ heard y g
heard_on held (Ok (Some r)) f g s same =
    ap (λ (l : List NextRead). record { head = head_ready r.version r.kind r.parameters r.next; after = l }) (same s.nineteen r.next.at)
heard_on held (Ok None) f g s same = refl
heard_on held (Err r) f g s same = refl

module _ (k j : ℕ) where
  shown : (held : List ℕ) (pieces : List (List ℕ)) (last : Bool) → length (held ++ flatten pieces) + length pieces < k
      → length (held ++ flatten pieces) < j → head_waits (head_piece held last) ≡ false → head_piece held last ≡ head_read (held ++ flatten pieces)
      → heard (head_piece held last) (λ at. in_pieces k at (drop head_bytes held) pieces) ≡ all_answers j (held ++ flatten pieces)
  shown held pieces last a b m whole =
      heard_on held (head_piece held last) (λ at. in_pieces k at (drop head_bytes held) pieces)
      (λ at. answers j at (drop head_bytes (held ++ flatten pieces)))
      (subst (SaysHead held) (sym (head_alone held last m)) (head_says held))
      (λ h at.
      let split = drop-append-le head_bytes held (flatten pieces) h in
      let size : length (drop head_bytes held ++ flatten pieces) ≤ length (held ++ flatten pieces)
      = omega (arith, length-append (drop head_bytes held) (flatten pieces), length-append held (flatten pieces), length-drop head_bytes held) in
      joined k j at (drop head_bytes held) pieces (omega (arith, size)) (omega (arith, size)) ∙ ap (answers j at) (sym split))
      ∙ ap (λ (y : HeadRead). heard y (λ at. answers j at (drop head_bytes (held ++ flatten pieces)))) whole

  all_joined : (held : List ℕ) (pieces : List (List ℕ)) → length (held ++ flatten pieces) + length pieces < k
      → length (held ++ flatten pieces) < j → all_in_pieces k held pieces ≡ all_answers j (held ++ flatten pieces)
  unfolding all_in_pieces flatten
  all_joined held [] a b = shown held [] true a b (last_head held) (ap head_read (sym (append-nil held)))
  all_joined held (p ∷ pieces) a b = go (head_waits (head_piece held false)) refl (all_joined (held ++ p) pieces)
    where
      go : (t : Bool) → head_waits (head_piece held false) ≡ t
          → (length ((held ++ p) ++ flatten pieces) + length pieces < k → length ((held ++ p) ++ flatten pieces) < j
          → all_in_pieces k (held ++ p) pieces ≡ all_answers j ((held ++ p) ++ flatten pieces))
          → pick t (all_in_pieces k (held ++ p) pieces) (heard (head_piece held false) (λ at. in_pieces k at (drop head_bytes held) (p ∷ pieces)))
          ≡ all_answers j (held ++ (p ++ flatten pieces))
      go true m more =
          let same = append_assoc held p (flatten pieces) in
          more (rw same (omega arith)) (rw same (omega arith)) ∙ ap (all_answers j) same
      go false m more = shown held (p ∷ pieces) false a b m (piece_head held (p ++ flatten pieces) m)

-- whatever the pieces, the head, the records, the refusal and its offset are the whole file's
pub pieces_joined : (pieces : List (List ℕ)) (k j : ℕ) → length (flatten pieces) + length pieces < k → length (flatten pieces) < j
    → all_in_pieces k [] pieces ≡ all_answers j (flatten pieces)
pieces_joined pieces k j a b = all_joined k j [] pieces a b
