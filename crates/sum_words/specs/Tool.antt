-- The tools: the name and the algorithms of each.
use Rattle.std.specs.Prelude.{codes}
use Rattle.digest_kinds.specs.declared.algo.Algo.TheVariants.{Md5, Sha1, Sha224, Sha256, Sha384, Sha512, Blake2b}
use Rattle.digest_kinds.specs.{declared.algo.Algos.TheVariants.One, declared.algo.Algos.TheVariants.Any}
use Rattle.digest_kinds.specs.{Bytes.ByteString, declared.algo.Algos.Algos}
use Rattle.sum_words.specs.declared.tool.Tool.{Tool}
use Rattle.sum_words.specs.declared.tool.Tool.TheVariants as tools

-- the name of a tool, and the algorithms of the digests that it checks and, but for anysum, writes
abbrev pub tool_row : Tool → ByteString × Algos
tool_row tools.Md5sum = (codes "md5sum", One Md5)
tool_row tools.Sha1sum = (codes "sha1sum", One Sha1)
tool_row tools.Sha224sum = (codes "sha224sum", One Sha224)
tool_row tools.Sha256sum = (codes "sha256sum", One Sha256)
tool_row tools.Sha384sum = (codes "sha384sum", One Sha384)
tool_row tools.Sha512sum = (codes "sha512sum", One Sha512)
tool_row tools.B2sum = (codes "b2sum", One Blake2b)
tool_row tools.Anysum = (codes "anysum", Any)

-- the name of a tool
abbrev pub name_of : Tool → ByteString
name_of tool = (tool_row tool).0

-- the algorithms of a tool
abbrev pub algos_of : Tool → Algos
algos_of tool = (tool_row tool).1
