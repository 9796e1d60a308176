-- The version's refusal, then the kind's, and then what set-up refuses.
use Rattle.laws.specs.Kit.{refl, ap, ◌∙◌}
use Rattle.refusal.specs.Told.{number_in}
use Rattle.refusal.proofs.Asking.{number_in_both}
use Rattle.limits.proofs.Profiles.{profile_number}
use Rattle.record.proofs.Writing.{heading_all}
use Rattle.record.proofs.check_heading.Goals as goal

pub returns : goal.returns
returns c =
    ap number_in c.and.ensures
    ∙ number_in_both _ _ (c.check_version-of_version.ensures) (ap number_in c.and-later.ensures ∙ number_in_both _ _
    (profile_number _ _ c.try_from-of_kind.ensures) c.check-of_numbers.ensures)
    ∙ heading_all _ _ _ refl refl c.resolved.ensures c.profile_of.ensures refl
