-- Files whose scripts name keys of the file's transaction services.
pub use Rattle.world_laws.specs.NamedKeys.{IsKey, statement_keys, is_some_key, names_some, NamesKeys, op_keys, op_names_some, OpNamed}
