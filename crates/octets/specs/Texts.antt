-- ASCII text as bytes.
--
--   text t  == the bytes of the text t, a byte for each character
--
-- Assumes nothing: this is a definition.
use Rattle.std.specs.Prelude.{ℕ, List, [] as none, ◌∷◌ as ◌then◌}
use Prim.Native.Char.{code}
use Prim.Native.String.{String, [], ◌∷◌}

abbrev pub text : String → List ℕ
text [] = none
text (c ∷ t) = code c then text t
