-- The reader's answers, call after call, are the records that the file reads as: by the bytes that are left, one record a step.
use Rattle.std.specs.Prelude.{◌≡◌, ◌∷◌, ◌++◌, ◌+◌, ◌*◌, ◌^◌, ◌≤◌, ◌<◌, Ok, Err, Some, None}
use Rattle.laws.specs.Kit.{refl, sym, ap, ◌∙◌, subst, Bool, true, false, List, [], ℕ, zero, suc}
use Rattle.laws.specs.Kit.{arith, mod-eq_of_lt, ℕ_discrete, length, drop, length-drop, drop-drop}
use Rattle.laws.specs.Choose.{pick}
use Rattle.laws.proofs.Choose.{false_true, second, before}
use Rattle.laws.specs.Fold.{fold}
use Rattle.limits.specs.declared.Parameters.{Parameters}
use Rattle.packet.specs.declared.Past.{Past}
use Rattle.packet.specs.declared.Packet as packet
use Rattle.packet.specs.Step.{nothing, next_of, number_of}
use Rattle.record.specs.declared.Cursor.{Cursor}
use Rattle.record.specs.Step.{HeadRead, head_ready, head_refused, next_refused, next_packet, next_end}
use Rattle.record.specs.Step.{NextRead}
use Rattle.record.specs.declared.Next.TheVariants.{Packet, End, More}
use Rattle.record.specs.Paper.{packet_bytes, head_bytes, packet_at, Heading, heading, format_refusal, packet_refusal, numbers_refusal}
use Rattle.record.specs.Paper.{Ending, done, stopped, Packets, packets_in, Reading, unread, read, reading_of, file, ended_file, as_file}
use Rattle.record.specs.Step.{cursor, after, packet_of, head_read, next_read}
use Rattle.record.specs.Pieces.{reading_goes_on, next_at, taken, Heard, heard, calls_of, all_calls, answers, all_answers}
use Rattle.record.specs.Pieces.{told_packets, told_head, told, StopsAt, AnsweredBy, Answered}
use Rattle.record.proofs.Reading.{packet_here, packets_end, packets_stop, packets_go}
use Rattle.record.proofs.Saying.{Says, next_says, Stood, SaysHead, head_says, reads_refused, reads_packets}
use Rattle.record.proofs.Window.{read_within}
use Rattle.record.proofs.ReadWrite.{refused_file}

-- one answer, and the others from where it leads
one_answer : (k at : ℕ) (l : List ℕ) {i : NextRead} → next_read at l ≡ i
    → answers (suc k) at l ≡ i ∷ pick (reading_goes_on i) (answers k (next_at i) (drop (taken i) l)) []
unfolding answers
one_answer k at l e = rw e

-- one packet more in front
told_more : (past : Past) (at : ℕ) (p : packet.Packet) (ps : List packet.Packet) (e : Ending) (l : List NextRead)
    → AnsweredBy (next_of past p.time) (at + packet_bytes) ps e l
    → AnsweredBy past at (p ∷ ps) e (next_packet p (cursor (at + packet_bytes)) ∷ l)
unfolding told_packets fold
told_more past at p ps done l t = ap (λ (r : List NextRead). next_packet p (cursor (at + packet_bytes)) ∷ r) t
told_more past at p ps (stopped n o) l t =
    let further : at + packet_bytes + packet_bytes * length ps ≡ at + packet_bytes * suc (length ps) = omega arith in (
      t.0,
      t.1,
      ap (λ (r : List NextRead). next_packet p (cursor (at + packet_bytes)) ∷ r) t.2,
      record { number_is = t.3.number_is; offset_is = t.3.offset_is ∙ further; own = t.3.own },
    )

module _ (past : Past) (at : ℕ) (l : List ℕ) (j : ℕ) where
  abbrev Told : Packets → Type 0
  Told r = AnsweredBy past at r.accepted r.ending (answers (suc j) at l)

  -- nothing is left
  at_end : length l ≡ 0 → next_read at l ≡ next_end → Told (packets_in past at l)
  unfolding told_packets
  at_end z e = subst Told (sym (packets_end past at l z)) (one_answer j at l e)

  -- reading stops at this record, whose answer is i
  at_stop : (n : ℕ) (i : NextRead) → 0 < length l → packet_refusal past l ≡ n → 0 < n → next_read at l ≡ i → StopsAt past at n at i
      → Told (packets_in past at l)
  unfolding told_packets fold
  at_stop n i some e p f t =
      let here : at ≡ at + packet_bytes * 0 = omega arith in
      subst Told (sym (packets_stop past at l n some e p))
      (i, _, one_answer j at l f, record { number_is = t.number_is; offset_is = here; own = t.own })

  -- a packet, and what follows it
  module _ (f : format_refusal false l ≡ 0) (e : next_read at l ≡ packet_of l (after at packet_bytes)) where
    abbrev next : Packets
    next = packets_in (next_of past (packet_at l).time) (at + packet_bytes) (drop packet_bytes l)

    goes_on : packet_refusal past l ≡ 0 → at + length l < 2 ^ 64
        → AnsweredBy (next_of past (packet_at l).time) (at + packet_bytes) next.accepted next.ending
        (answers j (at + packet_bytes) (drop packet_bytes l))
        → Told (packets_in past at l)
    goes_on r w ih =
        let here = packet_here l f in
        let p = packet_at l in
        let on : after at packet_bytes ≡ cursor (at + packet_bytes) =
        ap cursor (mod-eq_of_lt {n = at + packet_bytes} {m = 2 ^ 64} (omega (arith, here.sixteen))) in
        subst Told (sym (packets_go past at l r))
        (subst (AnsweredBy past at (p ∷ next.accepted) next.ending) (sym (one_answer j at l (e ∙ ap (packet_of l) on)))
        (told_more past at p next.accepted next.ending (answers j (at + packet_bytes) (drop packet_bytes l)) ih))

    at_packet : Dec (packet_refusal past l ≡ 0) → at + length l < 2 ^ 64
        → AnsweredBy (next_of past (packet_at l).time) (at + packet_bytes) next.accepted next.ending
        (answers j (at + packet_bytes) (drop packet_bytes l))
        → Told (packets_in past at l)
    at_packet (yes r) w ih = goes_on r w ih
    at_packet (no r) w ih =
        let number = second (format_refusal false l) (number_of past (packet_at l)) f in
        at_stop (number_of past (packet_at l)) (packet_of l (after at packet_bytes)) (omega (arith, (packet_here l f).sixteen)) number
        (omega (arith, number, r)) e (record { number_is = refl; offset_is = refl; own = λ q. absurd (omega arith) })

packets_told : (j : ℕ) (past : Past) (at : ℕ) (l : List ℕ) → length l < j → at + length l < 2 ^ 64
    → AnsweredBy past at (packets_in past at l).accepted (packets_in past at l).ending (answers j at l)
packets_told zero past at l b w = absurd (omega arith)
packets_told (suc j) past at l b w =
    go (next_read at l) refl (next_says at l) (packets_told j (next_of past (packet_at l).time) (at + packet_bytes) (drop packet_bytes l))
  where
    further : Packets
    further = packets_in (next_of past (packet_at l).time) (at + packet_bytes) (drop packet_bytes l)

    go : (r : NextRead) → next_read at l ≡ r → Says at l r
        → (length (drop packet_bytes l) < j → at + packet_bytes + length (drop packet_bytes l) < 2 ^ 64
        → AnsweredBy (next_of past (packet_at l).time) (at + packet_bytes) further.accepted further.ending
        (answers j (at + packet_bytes) (drop packet_bytes l)))
        → AnsweredBy past at (packets_in past at l).accepted (packets_in past at l).ending (answers (suc j) at l)
    go (Ok End) e s ih = at_end past at l j s e
    go (Ok More) e s ih = absurd s
    go (Err r) e s ih =
        at_stop past at l j r.number (next_refused r.number r.offset r.size) s.0 (before _ _ (omega arith) ∙ s.1) s.2 e
        (record { number_is = refl; offset_is = refl; own = λ q. s.3 })
    go (Ok (Packet p c)) e s ih =
        let long = (packet_here l s.0).sixteen in
        let size = length-drop packet_bytes l in
        at_packet past at l j s.0 (e ∙ sym s.1) (ℕ_discrete (packet_refusal past l) 0) w
        (ih (omega (arith, size, long)) (omega (arith, size, long)))

-- ---- from the first byte

pub rest_answers : (s : List ℕ) (j : ℕ) → length s < 2 ^ 64 → length s < j → Answered (reading_of s) (all_answers j s)
rest_answers s j w h = go (head_read s) (head_says s)
  where
    l : List ℕ
    l = drop head_bytes s

    stood : (version kind : ℕ) (x : Parameters) (c : Cursor) → Stood s version kind x c → Dec (numbers_refusal (heading version kind x) ≡ 0)
        → Answered (reading_of s) (heard (head_ready version kind x c) (λ at. answers j at (drop head_bytes s)))
    stood version kind x c q (no n) =
        subst (λ (r : Reading). Answered r (heard (head_ready version kind x c) (λ at. answers j at (drop head_bytes s))))
        (sym (reads_refused q (numbers_refusal (heading version kind x)) refl (omega arith))) (refl, refl)
    stood version kind x c q (yes z) =
        let size : length (drop head_bytes s) + head_bytes ≡ length s = omega (arith, length-drop head_bytes s, q.nineteen) in
        let told = packets_told j nothing head_bytes (drop head_bytes s) (omega (arith, size)) (omega (arith, size)) in
        subst (λ (r : Reading). Answered r (heard (head_ready version kind x c) (λ at. answers j at (drop head_bytes s))))
        (sym (reads_packets q z)) (rw q.next_19, rw q.next_19 told)

    go : (y : HeadRead) → SaysHead s y → Answered (reading_of s) (heard y (λ at. answers j at (drop head_bytes s)))
    go (Ok (Some r)) q = stood r.version r.kind r.parameters r.next q (ℕ_discrete (numbers_refusal (heading r.version r.kind r.parameters)) 0)
    go (Ok None) q = absurd q
    go (Err r') q =
        subst (λ (r : Reading). Answered r (heard (head_refused r'.number r'.place) (λ at. answers j at (drop head_bytes s)))) (sym q) (refl, refl)

-- ---- and of the whole file, by the cursor: each answer leads as far as it took

next_along : (at : ℕ) (l : List ℕ) → at + length l < 2 ^ 64 → reading_goes_on (next_read at l) ≡ true
    → next_at (next_read at l) ≡ at + taken (next_read at l)
next_along at l w = go (next_read at l) (next_says at l)
  where
    go : (r : NextRead) → Says at l r → reading_goes_on r ≡ true → next_at r ≡ at + taken r
    go (Ok (Packet p c)) s g =
        let m = mod-eq_of_lt {n = at + packet_bytes} {m = 2 ^ 64} (omega (arith, (packet_here l s.0).sixteen)) in
        let q = s.1 in
        cc
    go (Ok End) s g = absurd (false_true g)
    go (Ok More) s g = absurd s
    go (Err r) s g = absurd (false_true g)

calls_along : (k at : ℕ) (s : List ℕ) → at ≤ length s → length s < 2 ^ 64 → calls_of k at s ≡ answers k at (drop at s)
unfolding calls_of answers
calls_along zero at s h w = refl
calls_along (suc k) at s h w = go (reading_goes_on i) refl (calls_along k (next_at i) s)
  where
    i : NextRead
    i = next_read at (drop at s)

    go : (t : Bool) → reading_goes_on i ≡ t
        → (next_at i ≤ length s → length s < 2 ^ 64 → calls_of k (next_at i) s ≡ answers k (next_at i) (drop (next_at i) s))
        → i ∷ pick t (calls_of k (next_at i) s) [] ≡ i ∷ pick t (answers k (next_at i) (drop (taken i) (drop at s))) []
    go false g ih = refl
    go true g ih =
        let size = length-drop at s in
        let on = next_along at (drop at s) (omega (arith, size)) g in
        let took = (read_within at (drop at s)).1 in
        let same : drop (next_at i) s ≡ drop (taken i) (drop at s) =
        ap (λ (n : ℕ). drop n s) on ∙ sym (drop-drop (taken i) at s) in
        ap (λ (r : List NextRead). i ∷ r) (ih (omega (arith, on, took, size)) w ∙ ap (answers k (next_at i)) same)

all_along : (k : ℕ) (s : List ℕ) → length s < 2 ^ 64 → all_calls k s ≡ all_answers k s
all_along k s w = go (head_read s) (head_says s)
  where
    go : (y : HeadRead) → SaysHead s y → heard y (λ at. calls_of k at s) ≡ heard y (λ at. answers k at (drop head_bytes s))
    go (Ok (Some r)) q =
        rw q.next_19 (ap (λ (l : List NextRead). record { head = head_ready r.version r.kind r.parameters (cursor head_bytes); after = l })
        (calls_along k head_bytes s q.nineteen w))
    go (Ok None) q = refl
    go (Err r) q = refl

-- the answers of the reader are the file's records
pub reader_answers : (s : List ℕ) (j : ℕ) → length s < 2 ^ 64 → length s < j → Answered (reading_of s) (all_calls j s)
reader_answers s j w h = subst (Answered (reading_of s)) (sym (all_along j s w)) (rest_answers s j w h)

-- of an accepted file there is nothing but the records and the end
pub answered_file : (r : Reading) (y : Heard) (s : Heading) (ps : List packet.Packet) → as_file r ≡ file s ps → Answered r y → y ≡ told s ps
answered_file (unread n o) y s ps e a = absurd (refused_file n o s ps e)
answered_file (read x r) y s ps e a = go r.ending e a.1
  where
    go : (d : Ending) → ended_file x r.accepted d ≡ file s ps → AnsweredBy nothing head_bytes r.accepted d y.after → y ≡ told s ps
    go (stopped n o) e b = absurd (refused_file n o s ps e)
    go done e b =
        let same_heading : x ≡ s = cc in
        let same_packets : r.accepted ≡ ps = cc in
        let e_head : y.head ≡ told_head s = a.0 ∙ rw same_heading in
        let e_after : y.after ≡ told_packets head_bytes ps ++ (next_end ∷ []) = b ∙ rw same_packets in
        λ j. record { head = e_head j; after = e_after j }
