-- what a map of TOML values says of its keys
use Rattle.std.proofs.Common.{◌≡◌, List, [], ◌∷◌, String, Global, string_bytes, refl, ap, ◌&&◌}
use Rattle.std.specs.List.{list_all}
use Rattle.std.specs.Map.{keys_of}
use Rattle.toml.specs.declared.value.Value.{Value}
use Rattle.toml.specs.View.{members_view}
use Rattle.pipeline_tables.specs.declared.fault.FileKey.{FileKey}
use Rattle.pipeline_tables.specs.Keys.{is_one_of, has_only}

-- the keys of a map's entries
pub has_only_entries : (known : List FileKey) (es : List (String Global × Value)) → list_all (λ text. is_one_of known (string_bytes text)) (keys_of es) ≡ has_only known (members_view es)
unfolding has_only
has_only_entries known [] = refl
has_only_entries known (e ∷ es) = ap (λ b. is_one_of known (string_bytes e.0) && b) (has_only_entries known es)
