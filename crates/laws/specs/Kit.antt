-- The names of the kit that this project uses, in one place: a file that needs some of them has one line for all. Operators come from std's
-- Prelude itself.
pub use Rattle.std.proofs.Common.{◌∙◌, ap, subst, sym, inl, inr, ⊎_elim, zero-le, arith, add_assoc, add-mul, add-sub_of_le, add-zero, div-add-mod'}
pub use Rattle.std.proofs.Common.{div-lt_iff_lt-mul, div-mul-le_self, div-one, le-div_iff_mul-le, le_trans, mod-eq_of_lt, mod-lt, mul-add, mul_assoc}
pub use Rattle.std.proofs.Common.{mul_comm, mul-le-mul, mul-le-mul_left, mul-le-mul_right, mul_left_comm, mul-one, not-suc-le-zero, one-mul, pow-suc}
pub use Rattle.std.proofs.Common.{sub-eq-zero_of_le, suc-mul, zero-add, zero-mul, leb→le, le→leb, lit<, drop_of_length-le, length-append, length-drop}
pub use Rattle.std.proofs.Common.{length-set, length-take, take-append-drop, drop_at, drop-cons, drop-drop, drop-set-lt, get_or-drop, length-take-le}
pub use Rattle.std.proofs.Common.{take-add, take_all, take_at, take-suc, take-suc-set, eq-eqb, eqb-true, le-leb, le-ltb, leb-false, leb-true, lt-ltb}
pub use Rattle.std.proofs.Common.{ltb-false, ltb-true, ne_eqb}
pub use Rattle.std.specs.Prelude.{refl, Bool, cond, false, not, true, max, min, pred, suc, zero, ℕ, T, eqb, leb, ltb, nat_abs, negsuc, neg_ℤ, pos, ℤ}
pub use Rattle.std.specs.Prelude.{drop, get_or, length, replicate, set, take}
pub use Rattle.std.proofs.Math.Bool.{and-false, or-false, or-true}
pub use mathlib.Core.List.{List, [], append_assoc, append-nil, map, map-append, reverse, reverse-append, reverse-cons, reverse-reverse}
unfoldable pub use mathlib.Core.List.{flatten}
pub use Rattle.std.proofs.Math.Nat.{div-add-mod, div-div-eq-div-mul, div-eq_of_lt, div-eq_of_lt-le, div-le_of_le-mul, div-zero, le-suc_iff}
pub use Rattle.std.proofs.Math.Nat.{lt-div-mul-add, mod-one, mul-add-mod_self_left, mul-div-mul_left, one-le-pow, pow-succ', sub_self, sub-zero}
pub use Rattle.std.proofs.Math.Nat.{suc_inj, zero-div, zero-sub}
pub use Rattle.std.proofs.Math.Decide.{dec_le, dec_lt, ℕ_discrete}
pub use Rattle.std.proofs.Math.Dec.{eqb-suc-zero, leb-zero, nleb→lt}
pub use Rattle.std.proofs.Math.IntN.{sub_ℕ}
pub use Rattle.std.specs.Int.Signed.{le_z, lt_z, mag, non_neg}
pub use Rattle.std.proofs.Math.ListN.{get_or-append, get_or-eq_default}
pub use Rattle.std.proofs.lemmas.List.{length-map, length-replicate, length-reverse, drop-append-le, take-append-le}
pub use Rattle.std.proofs.Math.Seq.{append_snoc, drop-length, drop-nil, length-sets, take-append_seam, take-length, take-nil}
pub use Rattle.std.proofs.lemmas.List.Edits.{sets, sets-eq}
pub use Rattle.std.proofs.lemmas.Bool.{eqb-false, lt-leb, not-false, not-true}
