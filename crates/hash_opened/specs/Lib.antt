-- What a proof carries of a hash tree.
--     Carried       THE BYTES of one query, and of all queries in a buffer
--     CarriedLaws   their lengths, and a path one step longer
--     PathLaws      carried_leads: the path that is carried leads to the root
--     WrittenLaws   written_at: where each query's bytes are; what stays as it was
pub mod Carried
pub mod CarriedLaws
pub mod PathLaws
pub mod WrittenLaws
