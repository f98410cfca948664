-- The names that most proofs here cite, passed on from one place. Declares nothing.
pub use Rattle.std.proofs.Common.{◌∙◌, ◌≡◌, ap, refl, List, codes, Err, ap₂, sym, true, Bool, Result, [], false, map, rules, true≢false, ◌∷◌, Ok, subst, ℕ}
pub use Rattle.std.proofs.Common.{◌≤◌, OnErr, OnOk, Some, cond, inl, inr, not, option_map, ◌&&◌}
pub use Rattle.std.{proofs.lemmas.Result.IfOk-weaker, specs.Io.KnownBytes.Appends, specs.Result.result_unwrap_or}
pub use Rattle.std.specs.{Str.Parse.ParsesUnsigned, Str.Parse.digits_value, Str.Parse.without_leading_plus}
pub use Rattle.clap.{proofs.WalkLemmas.first_value-rows, specs.Values.IsUnsignedIn, specs.declared.builder.value_parser.ValueParser.TheVariants.Unsigned}
pub use Rattle.clap.specs.Words.{app_of, App, fault_of, found_of, new_app, with_rule, Text, is_simple, is_simple_and_free, subcommand_of, with_subcommand}
unfoldable pub use Rattle.clap.proofs.OnLiterals.{clap_on_literals}
pub use Rattle.rx_cli.specs.{Told.Bytes, Told.IsTextWritten}
pub use Rattle.rx_cli.specs.{Words.number_by, Words.rxbook, Words.form_by, Words.run_by, Words.labels_by, Words.order_of_subcommand}
pub use Rattle.rx_device.specs.declared.{fault.ScriptError.TheVariants.Memory, watched.Watched.Watched}
