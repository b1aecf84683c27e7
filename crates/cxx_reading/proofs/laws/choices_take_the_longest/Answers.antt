use Rattle.cxx_reading.proofs.Choices.{longest, deep_as_either, nothing_as_both}
use Rattle.cxx_reading.proofs.laws.choices_take_the_longest.Goals as goal

pub returns-clause-longest : goal.returns-clause-longest
returns-clause-longest g c = longest

pub returns-clause-deep : goal.returns-clause-deep
returns-clause-deep g c = deep_as_either

pub returns-clause-nothing : goal.returns-clause-nothing
returns-clause-nothing g c = nothing_as_both
