use Rattle.cxx_tokens.proofs.Told.{each_known, ends_rising, are_few, holds_members, is_cut}
use Rattle.cxx_tokens.proofs.lexing.tokens.Goals as goal

pub returns-clause-cut : goal.returns-clause-cut
returns-clause-cut c = is_cut c.scanned.result c.args.names.now c.scanned.new.names c.args.bytes.now c.scanned.ensures.tokens

pub returns-clause-known : goal.returns-clause-known
returns-clause-known c = each_known c.scanned.result c.args.names.now c.scanned.new.names c.args.bytes.now c.scanned.ensures.tokens

pub returns-clause-members : goal.returns-clause-members
returns-clause-members c = holds_members c.scanned.result c.args.names.now c.scanned.new.names c.args.bytes.now c.scanned.ensures.tokens

pub returns-clause-rise : goal.returns-clause-rise
returns-clause-rise c = ends_rising c.scanned.result c.args.names.now c.scanned.new.names c.args.bytes.now c.scanned.ensures.tokens

pub returns-clause-few : goal.returns-clause-few
returns-clause-few c = are_few c.scanned.result c.args.names.now c.scanned.new.names c.args.bytes.now c.scanned.ensures.tokens
