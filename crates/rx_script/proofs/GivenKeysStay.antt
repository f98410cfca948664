-- The keys that a book gave stay so, as it goes on.
use Rattle.rx_script.proofs.Common.{length, arith, All, Key, ResKey, LeaseKey, State, IsPromised, Continues, IsNodeKey, IsHeldKey, IsLeaseKey, Engine, IsSound}
use Rattle.rx_script.proofs.KeysByNumber.{numbered, key_kept}

-- a key that a book gave stays so
node_key_kept : (old new : State) (k : Key) → IsPromised old → IsPromised new → Continues old new → IsNodeKey old k → IsNodeKey new k
node_key_kept old new k before after goes known = record {
  within = (let longer = goes.longer in let within = known.within in omega arith);
  found = key_kept (length old.history) k (numbered (λ (j : Key). j.number) old.keys before.keys)
      (numbered (λ (j : Key). j.number) new.keys after.keys) goes.keys known.within known.found;
}

held_key_kept : (old new : State) (k : ResKey) → IsPromised old → IsPromised new → Continues old new → IsHeldKey old k → IsHeldKey new k
held_key_kept old new k before after goes known = record {
  within = (let longer = goes.longer in let within = known.within in omega arith);
  found = key_kept (length old.history) k (numbered (λ (j : ResKey). j.number) old.res_keys before.res_keys)
      (numbered (λ (j : ResKey). j.number) new.res_keys after.res_keys) goes.res_keys known.within known.found;
}

lease_key_kept : (old new : State) (k : LeaseKey) → IsPromised old → IsPromised new → Continues old new → IsLeaseKey old k → IsLeaseKey new k
lease_key_kept old new k before after goes known = record {
  within = (let longer = goes.longer in let within = known.within in omega arith);
  found = key_kept (length old.history) k (numbered (λ (j : LeaseKey). j.number) old.lease_keys before.lease_keys)
      (numbered (λ (j : LeaseKey). j.number) new.lease_keys after.lease_keys) goes.lease_keys known.within known.found;
}

-- the names of an engine are bound to keys that this book gave
pub record HasKeys {R : Type 0} (e : Engine R) (book : State) : Type 0 where
  pub nodes : All (λ n. IsNodeKey book n.key) e.nodes
  pub resources : All (λ n. IsHeldKey book n.key) e.resources
  pub leases : All (λ n. IsLeaseKey book n.key) e.leases

pub keys_kept : {R : Type 0} {e : Engine R} {book : State} → IsSound e → IsPromised book → Continues e.book book → HasKeys e book
keys_kept {e} {book} sound kept goes = record {
  nodes = λ i d lt. node_key_kept e.book book _ sound.kept kept goes (sound.nodes i d lt);
  resources = λ i d lt. held_key_kept e.book book _ sound.kept kept goes (sound.resources i d lt);
  leases = λ i d lt. lease_key_kept e.book book _ sound.kept kept goes (sound.leases i d lt);
}
