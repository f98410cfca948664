-- What stands for a member that may be missing.
use Rattle.std.proofs.Common.{◌≡◌, Option, Some, None, ap, ◌∙◌}
use Rattle.std.specs.Prelude.{unwrap_or}
use Rattle.serde_json.specs.Data.{Data}

pub the_member : (o : Option Data) (x d : Data) → Some x ≡ o → x ≡ unwrap_or o d
the_member o x d found = ap (λ (m : Option Data). unwrap_or m d) found

pub no_member_there : (o : Option Data) (x d : Data) → x ≡ d → None ≡ o → x ≡ unwrap_or o d
no_member_there o x d same missing = same ∙ ap (λ (m : Option Data). unwrap_or m d) missing
