-- The parameters, field by field, each by what its reader ensures.
use Rattle.record.proofs.parameters_of.Goals as goal

pub returns : goal.returns
returns c = cc
