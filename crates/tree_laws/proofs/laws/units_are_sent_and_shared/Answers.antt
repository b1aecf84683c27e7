use denote.Param.Send.{sendable}
use Rattle.tree_laws.proofs.Sent as sent
use Rattle.tree_laws.proofs.Shared as shared
use Rattle.tree_laws.proofs.laws.units_are_sent_and_shared.Goals as goal

-- src/laws.rt:14:5
pub is_sent_and_shared-requires-send-T : goal.is_sent_and_shared-requires-send-T
is_sent_and_shared-requires-send-T c κs = search (sendable, sent.unit)

-- src/laws.rt:14:5
pub is_sent_and_shared-requires-sync-T : goal.is_sent_and_shared-requires-sync-T
is_sent_and_shared-requires-sync-T c κs = search (sendable, shared.unit)
