use Rattle.std.proofs.Common.{◌≡◌, take, fold}
use Rattle.sparse_index.specs.LastBytes.{one_more}
use Rattle.sparse_index.proofs.last_bytes.LastBytesHasher.write.Given as goal

abbrev pub invariant-loop-byte : goal.invariant-loop-byte
invariant-loop-byte l = l.self.state ≡ fold one_more l.initial.self.state (take l.byte-index l.bytes)
