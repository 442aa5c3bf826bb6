mod FilesLemmas
mod HostLemmas
mod SinkLemmas
pub mod Written
