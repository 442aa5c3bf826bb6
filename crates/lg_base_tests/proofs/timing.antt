pub mod SampleKinds
