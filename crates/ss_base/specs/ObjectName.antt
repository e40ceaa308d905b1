-- The names under which objects are stored (this project's own).
use Rattle.std.specs.Prelude.{ℕ, List, ◌++◌, codes}
use Rattle.std.specs.Fmt.{decimal}
use Rattle.ss_base.specs.declared.object.Object.{Object}
use Rattle.ss_base.specs.declared.object.Object.TheVariants.{Container, Manifest}

-- c-SESSION-ORDINAL or m-SESSION-SEQ, in decimal without leading zeros
abbrev pub object_text : Object → List ℕ
object_text (Container c) = codes "c-" ++ decimal c.session ++ codes "-" ++ decimal c.ordinal
object_text (Manifest m) = codes "m-" ++ decimal m.session ++ codes "-" ++ decimal m.seq
