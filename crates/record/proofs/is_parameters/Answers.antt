-- The kinds that stand for a profile.
use Rattle.laws.specs.Kit.{◌∙◌}
use Rattle.limits.proofs.Profiles.{profile_known_by}
use Rattle.record.specs.Paper.{is_parameters}
use Rattle.record.proofs.is_parameters.Goals as goal

pub returns : goal.returns
unfolding is_parameters
returns c = c.is_ok.ensures.value ∙ profile_known_by _ _ c.try_from.ensures
