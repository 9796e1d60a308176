-- The other C functions, one law for each way out: the writer's answer as a number, the four limits, the next read, the three
-- doubles.
use Rattle.record.specs.Paper.{Heading}
use Rattle.std.specs.Prelude.{◌≡◌, ◌∷◌, ◌++◌, ◌≤◌, ◌<◌, Err, Ok}
use Rattle.laws.specs.Kit.{refl, sym, ap, ◌∙◌, Bool, true, false, List, [], ℕ, arith, leb, eqb, ℤ, length}
use Rattle.laws.specs.Kit.{drop, sets, sets-eq, ne_eqb}
use Rattle.laws.specs.Kit.{eqb-false, le-leb, lt-leb}
use lib.Ieee.{Float, binary64, in_float}
use mir.Syntax.{w64}
use mir.Val.{SFits, to_z, of_z}
use mir.Facts.{to_z-of_z}
use Rattle.laws.proofs.Choose.{pick_either}
use Rattle.packet.specs.Paper.{Scanned}
use Rattle.packet.specs.Paper.{packets}
use Rattle.packet.specs.Step.{nothing, scanned_of}
use Rattle.packet.proofs.Turn.{scanned_some}
use Rattle.timing.specs.declared.Stated.{Stated}
use Rattle.timing.specs.declared.Graph.{Graph}
use Rattle.timing.specs.Answers.{Drawn}
use Rattle.timing.specs.Answers.{Awaited}
use Rattle.timing.specs.Step.{stated_of, stated_refusal}
use Rattle.timing.specs.Answers.{graph_of, stated_next, awaited_number}
use Rattle.timing.proofs.Awaiting.{stated_some}
use Rattle.timing.proofs.Answering.{set_up_first, room_short, room_there}
use Rattle.record.specs.Write.{Written}
use Rattle.record.specs.Layout.{bytes_in}
use Rattle.record.specs.Write as record_write
use Rattle.report.specs.Paper.{limits_of, limits_number, limits_left, awaited_numbers, next_read_number, next_read_left}
use Rattle.report.specs.Step.{WriteGives, LimitsGives, ThreeGive, NextReadGives, draw_number, draw_left, DrawGives}

pub writes_as : (s : Heading) (ts ss ms out : List ℕ) {w v : Written} {after : List ℕ} → record_write.WriteGives s ts ss ms out w after
    → w ≡ v → WriteGives s ts ss ms out (record_write.written_number v) after
writes_as s ts ss ms out h e = record {
  number_is = ap record_write.written_number (sym e ∙ h.answered);
  bytes_are = h.left ∙ ap (λ (w : Written). record_write.left_by w (bytes_in s (packets ts ss ms)) out) h.answered;
}

-- a number of 0 says that the file was written: every refusal of the writer's has another
number_zero : (s : Heading) (ts ss ms : List ℕ) (room : ℕ) → record_write.written_number (record_write.written_of s ts ss ms room) ≡ 0
    → record_write.written_of s ts ss ms room ≡ Ok (record_write.file_length (length ts))
unfolding record_write.written_of
number_zero s ts ss ms room =
    let number = record_write.heading_refusal s in
    pick_either P (eqb number 0) (λ t. by (scanned_of nothing false ts ss ms) refl) (λ t e. absurd (eqb-false number 0 t e))
  where
    size : ℕ
    size = record_write.file_length (length ts)

    P : Written → Type 0
    P w = record_write.written_number w ≡ 0 → w ≡ Ok size

    by : (a : Scanned) → scanned_of nothing false ts ss ms ≡ a → P (record_write.scanning a size room)
    by (Ok n) f = pick_either P (leb size room) (λ t e. refl) (λ t e. absurd (omega arith))
    by (Err r) f = λ e. absurd (scanned_some nothing false ts ss ms r f e)

pub written_whole : (s : Heading) (ts ss ms out : List ℕ) {after : List ℕ} → WriteGives s ts ss ms out 0 after
    → record_write.WriteGives s ts ss ms out (Ok (record_write.file_length (length ts))) after
written_whole s ts ss ms out h =
    let done = number_zero s ts ss ms (length out) (sym h.number_is) in
    record {
      answered = sym done;
      left = h.bytes_are ∙ ap (λ (w : Written). record_write.left_by w (bytes_in s (packets ts ss ms)) out) done;
    }

-- ---- the limits

module _ (x : Stated) (out : List ℕ) where
  by_number : (n : ℕ) → limits_number x (length out) ≡ n → 0 < n → LimitsGives x out n out
  unfolding limits_left
  by_number n e p = record { number_is = sym e; numbers_are = sym (rw (e, ne_eqb n 0 (λ z. omega arith))) }

  pub limits_refused : (n : ℕ) → stated_refusal x ≡ n → 0 < n → LimitsGives x out n out
  unfolding limits_number
  limits_refused n e p = by_number n (set_up_first (stated_refusal x) 4 (length out) e p) p

  pub limits_short : stated_refusal x ≡ 0 → length out < 4 → LimitsGives x out 15 out
  unfolding limits_number
  limits_short e h = by_number 15 (room_short (stated_refusal x) 4 (length out) e h) (omega arith)

  pub limits_done : {after : List ℕ} → stated_refusal x ≡ 0 → 4 ≤ length out → after ≡ sets out 0 (limits_of (stated_of x))
      → LimitsGives x out 0 after
  unfolding limits_number limits_left
  limits_done e h f =
      let fine : limits_number x (length out) ≡ 0 = room_there (stated_refusal x) 4 (length out) e h in
      record {
        number_is = sym fine;
        numbers_are = f ∙ sets-eq (limits_of (stated_of x)) out 0 (omega arith) ∙ sym (rw (fine));
      }

-- ---- the next read

-- three numbers, and the room for them
module _ (a b c : ℕ) (out : List ℕ) where
  pub three_short : length out < 3 → ThreeGive a b c out 15 out
  three_short h = let few = lt-leb 3 (length out) h in record { number_is = rw few; numbers_are = rw few }

  pub three_done : {after : List ℕ} → 3 ≤ length out → after ≡ sets out 0 (a ∷ b ∷ c ∷ []) → ThreeGive a b c out 0 after
  three_done h f =
      let enough = le-leb 3 (length out) h in
      record { number_is = rw enough; numbers_are = f ∙ sets-eq (a ∷ b ∷ c ∷ []) out 0 (omega arith) ∙ sym (rw enough) }

module _ (x : Stated) (first t : ℕ) (out : List ℕ) {d : Awaited} (e : d ≡ stated_next x first t) where
  pub next_refused : {n : ℕ} → d ≡ Err n → NextReadGives x first t out n out
  unfolding next_read_number next_read_left
  next_refused {n} f =
      let told : stated_next x first t ≡ Err n = sym e ∙ f in
      let some = ne_eqb n 0 (stated_some x first t told) in
      record { number_is = sym (rw (told, some)); numbers_are = sym (rw (told, some, some)) }

  pub next_told : {a b c n : ℕ} {after : List ℕ} → awaited_number d ≡ 0 → awaited_numbers d ≡ a ∷ b ∷ c ∷ [] → ThreeGive a b c out n after
      → NextReadGives x first t out n after
  unfolding next_read_number next_read_left
  next_told {a} {b} {c} {n} {after} fine three gives = go (leb 3 (length out)) refl
    where
      number : awaited_number (stated_next x first t) ≡ 0
      number = ap awaited_number (sym e) ∙ fine

      numbers : awaited_numbers (stated_next x first t) ≡ a ∷ b ∷ c ∷ []
      numbers = ap awaited_numbers (sym e) ∙ three

      go : (z : Bool) → leb 3 (length out) ≡ z → NextReadGives x first t out n after
      go true f = record {
        number_is = gives.number_is ∙ rw (f, number);
        numbers_are = gives.numbers_are ∙ rw (f, number, numbers);
      }
      go false f = record {
        number_is = gives.number_is ∙ rw (f, number);
        numbers_are = gives.numbers_are ∙ rw (f, number);
      }

-- what it leaves: refused, all as it was; else the three numbers in front
module _ (x : Stated) (first t : ℕ) (out : List ℕ) where
  pub next_stays : (next_read_number x first t (length out) ≡ 0 → ⊥) → next_read_left x first t out ≡ out
  unfolding next_read_left
  next_stays some = rw (ne_eqb (next_read_number x first t (length out)) 0 some)

  pub next_filled : 3 ≤ length out → awaited_number (stated_next x first t) ≡ 0
      → next_read_left x first t out ≡ awaited_numbers (stated_next x first t) ++ drop 3 out
  unfolding next_read_number next_read_left
  next_filled room fine = rw (fine, le-leb 3 (length out) room)

-- ---- the graph

-- the figures as they are passed on: 64 bits, and back
pub drawn_of : {fpt margin latency : ℤ} {d : Drawn} → SFits w64 fpt → SFits w64 margin → SFits w64 latency
    → d ≡ graph_of (to_z w64 (of_z w64 fpt)) (to_z w64 (of_z w64 margin)) (to_z w64 (of_z w64 latency)) → graph_of fpt margin latency ≡ d
drawn_of {fpt} {margin} {latency} f g h e =
    sym
    (e
    ∙ ap (λ (z : ℤ). graph_of z (to_z w64 (of_z w64 margin)) (to_z w64 (of_z w64 latency))) (to_z-of_z f)
    ∙ ap (λ (z : ℤ). graph_of fpt z (to_z w64 (of_z w64 latency))) (to_z-of_z g)
    ∙ ap (graph_of fpt margin) (to_z-of_z h))

module _ (fpt margin latency : ℤ) (out : List Float) where
  -- a graph that is refused is so by 16
  not_drawn : {n : ℕ} → graph_of fpt margin latency ≡ Err n → n ≡ 16
  unfolding graph_of
  not_drawn {n} =
      let P : Drawn → Type 0 = λ d. d ≡ Err n → n ≡ 16 in
      pick_either P (in_float binary64 fpt) (λ f.
      pick_either P (in_float binary64 margin) (λ m.
      pick_either P (in_float binary64 latency) (λ l e. let z : ◌≡◌ {A = ℕ} 0 1 = cc in absurd (omega arith)) (λ l e. cc))
      (λ m e. cc)) (λ f e. cc)

  pub draws_refused : {n : ℕ} → graph_of fpt margin latency ≡ Err n → DrawGives fpt margin latency out n out
  draws_refused e = record {
    number_is = sym (ap (λ (d : Drawn). draw_number d (length out)) e ∙ rw (not_drawn e));
    doubles_are = sym (ap (λ (d : Drawn). draw_left d out) e);
  }

  module _ {g : Graph} (e : graph_of fpt margin latency ≡ Ok g) where
    pub draws_short : length out < 3 → DrawGives fpt margin latency out 15 out
    draws_short h =
        let few = lt-leb 3 (length out) h in
        record {
          number_is = sym (ap (λ (d : Drawn). draw_number d (length out)) e ∙ rw few);
          doubles_are = sym (ap (λ (d : Drawn). draw_left d out) e ∙ rw few);
        }

    pub draws_done : {after : List Float} → 3 ≤ length out → after ≡ sets out 0 (g.fpt ∷ g.margin ∷ g.latency ∷ [])
        → DrawGives fpt margin latency out 0 after
    draws_done h f =
        let enough = le-leb 3 (length out) h in
        record {
          number_is = sym (ap (λ (d : Drawn). draw_number d (length out)) e ∙ rw enough);
          doubles_are = f ∙ sets-eq (g.fpt ∷ g.margin ∷ g.latency ∷ []) out 0 (omega arith)
              ∙ sym (ap (λ (d : Drawn). draw_left d out) e ∙ rw enough);
        }
