-- A stream set up with class 0 is refused, and measured, as one set up with the number of its schedule's strict class. By the class that
-- both numbers mean.
use Rattle.std.specs.Prelude.{◌≡◌, ◌≤◌}
use Rattle.laws.specs.Kit.{ap, ◌∙◌, ℕ, suc}
use Rattle.limits.specs.declared.Parameters.{Parameters}
use Rattle.limits.specs.declared.Profile.{Profile}
use Rattle.limits.specs.Paper.{sender_class, class_of, given, set_up_refusal, set_up_in}
use Rattle.limits.proofs.Strict.{strict_number}
use Rattle.timing.specs.Step.{stream_with, set_up_of, rules_of}

module _ (profile : Profile) (edition : ℕ) (p : Parameters) (z : p.class ≡ 0) (h : p.schedule ≤ 1) where
  -- the same with 1 for class on schedule 0, and 2 on schedule 1
  abbrev strict : Parameters
  strict = given p.rate p.schedule (suc p.schedule) p.height p.n p.maxudp p.tro

  same_class : sender_class p ≡ sender_class strict
  same_class = ap (λ (class : ℕ). class_of class p.schedule) z ∙ strict_number p.schedule h

  pub strict_refused : set_up_of (stream_with profile edition p) ≡ set_up_of (stream_with profile edition strict)
  unfolding set_up_in set_up_refusal
  strict_refused = rw same_class

  pub strict_rules : rules_of (stream_with profile edition p) ≡ rules_of (stream_with profile edition strict)
  unfolding rules_of
  strict_rules = rw same_class
