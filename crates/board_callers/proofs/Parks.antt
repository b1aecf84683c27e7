-- Tasks of the samples that may be parked.
use Rattle.std.proofs.Common.{ℕ, zero, suc, ◌*◌, ◌/◌, ◌<◌, ◌≤◌, length, subst, arith}
use Rattle.settle_core.specs.Meant.{reads}
use Rattle.board_rule.specs.Plays.{CanPark}
use Rattle.settle_samples.specs.ThreePieces.{three_pieces, read_count}
use Rattle.settle_samples.specs.ThreeLaws.{count_is, three_lawful}
use Rattle.settle_samples.specs.Chained.{chain_reads, chain_of}
use Rattle.settle_samples.specs.ChainLaws.{reads_are}

-- a task of the three pieces with four steps for each read
pub parks_three : (first k taken : ℕ) → k < 3 → taken < length (reads (three_pieces first) k) → CanPark (three_pieces first) k (4 * taken) × (4 * taken ≤ 11)
parks_three first k taken inside l = let e = count_is first k inside in let own : (4 * taken) / 4 ≤ read_count first k = omega arith in ((own, omega arith), (three_lawful first).cheap k (4 * taken) inside own)

chain_few : (k t : ℕ) → t < length (chain_reads k) → (t ≤ k) × (t ≤ 2)
chain_few zero t l = absurd (omega arith)
chain_few (suc zero) t l = (omega arith, omega arith)
chain_few (suc (suc k)) t l = (omega arith, omega arith)

pub parks_chain : (n k t : ℕ) → t < length (reads (chain_of n) k) → CanPark (chain_of n) k t
parks_chain n k t l = (chain_few k t (subst (λ xs. t < length xs) (reads_are n k) l), l)
