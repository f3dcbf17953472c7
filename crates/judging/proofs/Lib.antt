pub mod SlotLaws
pub mod OkOr
pub mod TicketLaws
