-- bytes that are a document
use Rattle.std.proofs.Common.{◌≡◌, ℕ, Bool, true, false, cond, List, None, Err, refl, ap}
use Rattle.std.proofs.lemmas.Str.{IsUtf8-from_is_utf8, is_utf8-from_IsUtf8}
use Rattle.std.specs.Str.{IsUtf8, is_utf8}
use Rattle.toml.specs.Parse.{parse_document}
use Rattle.pipeline_tables.specs.declared.fault.FaultKind.TheVariants as kind
use Rattle.pipeline_tables.specs.Faults.{fault}
use Rattle.pipeline_file.specs.Document.{whole, some_document, document_of}

not_utf8 : (bs : List ℕ) (t : Bool) → is_utf8 bs ≡ t → (IsUtf8 bs → ⊥) → is_utf8 bs ≡ false
not_utf8 bs true e h = absurd (h (IsUtf8-from_is_utf8 bs e))
not_utf8 bs false e h = e

-- UTF-8 is the document that its text is
pub document_utf8 : (bs : List ℕ) → IsUtf8 bs → document_of bs ≡ some_document (parse_document bs)
unfolding document_of
document_utf8 bs h = ap (λ t. some_document (cond t (parse_document bs) None)) (is_utf8-from_IsUtf8 bs h)

-- other bytes are none
pub document_other : (bs : List ℕ) → (IsUtf8 bs → ⊥) → document_of bs ≡ Err (fault kind.NotToml whole)
unfolding document_of
document_other bs h = ap (λ t. some_document (cond t (parse_document bs) None)) (not_utf8 bs (is_utf8 bs) refl h)
