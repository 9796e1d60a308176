-- Why a contract that is an equation admits one answer: what meets it is what it names.
use Rattle.std.specs.Prelude.{◌≡◌}
use Rattle.laws.specs.Kit.{sym, ◌∙◌}

-- two answers that meet one equation are one
pub one_answer : {A : Type 0} {answer other named : A} → answer ≡ named → other ≡ named → answer ≡ other
one_answer e f = e ∙ sym f
