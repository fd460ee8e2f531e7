-- Which tool a name calls.
use Rattle.std.proofs.Common.{arith, ◌≡◌, ◌≢◌, false, None, Some, refl}
use Rattle.std.{proofs.lemmas.Slice.Eq.bytes_eq-Decides, specs.Str.bytes_eq}
use Rattle.digest_kinds.specs.Bytes.{ByteString}
use Rattle.sum_words.specs.{Tool.name_of, declared.tool.Tool.Tool}
use Rattle.sum_words.specs.CommandLine.{tool_called}
use Rattle.sum_words.specs.declared.tool.Tool.TheVariants as tools

-- a tool is called by its name
pub by_name : (tool : Tool) → tool_called (name_of tool) ≡ Some tool
unfolding tool_called
by_name tools.Md5sum = refl
by_name tools.Sha1sum = refl
by_name tools.Sha224sum = refl
by_name tools.Sha256sum = refl
by_name tools.Sha384sum = refl
by_name tools.Sha512sum = refl
by_name tools.B2sum = refl
by_name tools.Anysum = refl

-- no other bytes are the same
differ : (xs ys : ByteString) → xs ≢ ys → bytes_eq xs ys ≡ false
differ xs ys other = grind (arith, bytes_eq-Decides, other)

-- by no other name a tool is called
pub by_none : (name : ByteString) → ((tool : Tool) → name_of tool ≢ name) → tool_called name ≡ None
unfolding tool_called
by_none name none = rw (
  differ (name_of tools.Md5sum) name (none tools.Md5sum),
  differ (name_of tools.Sha1sum) name (none tools.Sha1sum),
  differ (name_of tools.Sha224sum) name (none tools.Sha224sum),
  differ (name_of tools.Sha256sum) name (none tools.Sha256sum),
  differ (name_of tools.Sha384sum) name (none tools.Sha384sum),
  differ (name_of tools.Sha512sum) name (none tools.Sha512sum),
  differ (name_of tools.B2sum) name (none tools.B2sum),
  differ (name_of tools.Anysum) name (none tools.Anysum),
) refl
