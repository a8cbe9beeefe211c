mod Bursts
mod Agreement
