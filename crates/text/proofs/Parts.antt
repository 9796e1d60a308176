-- Two parts of a line, put one behind the other, are one part: what was laid first and what was laid behind it were laid at once.
use Rattle.std.specs.Prelude.{◌≡◌, ◌∷◌, ◌++◌, ◌+◌, ◌≤◌}
use Rattle.laws.specs.Kit.{refl, sym, ap, ◌∙◌, List, [], append_assoc, ℕ, arith, length, take, drop, set, length-append, sets-eq}
use borrow.Rule.Slice.PartMut.{put_mid}
use Rattle.std.proofs.lemmas.Slice.{put_mid-paste}
use Rattle.std.proofs.lemmas.List.Edits.{paste_all}
use Rattle.laws.proofs.Lay.{sets_join, put_length}
use Rattle.text.specs.Lines.{line_room, Line, Part}

pub part_then : {m n at k r : ℕ} {a b before between after : List ℕ} → Part m a at before k between → Part n b k between r after
    → Part (m + n) (a ++ b) at before r after
part_then {m} {n} {at} {k} {r} {a} {b} {before} p q = record {
  put = record {
    next = omega (arith, length-append a b, p.put.next, q.put.next);
    there = cc (sets_join a b before at, p.put.next, p.put.there, q.put.there);
  };
  short = omega (arith, length-append a b, p.short, q.short);
}

-- the bytes stay as many as they were
pub part_kept : {m at k : ℕ} {a before after : List ℕ} → Part m a at before k after → length after ≡ length before
part_kept p = put_length p.put

-- a greater bound, and the same bytes grouped in another way
pub part_is : {m n at k : ℕ} {a b before after : List ℕ} → m ≤ n → a ≡ b → Part m a at before k after → Part n b at before k after
part_is {m} {n} {at} h e p = record {
  put = record { next = p.put.next ∙ ap (λ (l : List ℕ). at + length l) e; there = rw e at p.put.there };
  short = omega (arith, p.short, ap length e);
}

-- one byte
pub part_byte : (at d : ℕ) (before : List ℕ) → Part 1 (d ∷ []) at before (at + 1) (set before at d)
part_byte at d before = record { put = record { next = refl; there = refl }; short = omega arith }

-- bytes that were copied to a place
pub part_copied : (word before ys : List ℕ) (at n : ℕ) → ys ≡ word → n ≡ length word → at + length word ≤ length before
    → Part (length word) word at before (at + length word) (put_mid at n before ys)
part_copied word before ys at n e q h = record {
  put = record {
    next = refl;
    there = put_mid-paste at n before ys word (length word) e (sym q) refl ∙ paste_all before at word (length word) refl
        ∙ sym (append_assoc (take at before) word (drop (at + length word) before)) ∙ sym (sets-eq word before at h);
  };
  short = omega arith;
}

-- a part that is the whole line
pub part_put : {m at k : ℕ} {a before after : List ℕ} → m ≤ line_room → Part m a at before k after → Line a at before k after
part_put h p = record { put = p.put; short = omega (arith, p.short) }
